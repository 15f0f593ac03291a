-- The worked holes, parts, verdicts and sources.
use Rattle.std.proofs.Common.{◌≡◌, ◌∙◌, ℕ, List, [], ◌∷◌, All, Contains, length, get_or, refl, sym, ap, subst, arith}
use Rattle.std.specs.Prelude.{codes}
use Rattle.std.proofs.lemmas.List.Elements.{All-contains, All-cons}
use Rattle.hm_lex.specs.Cut.{tokens_of}
use Rattle.hm_lex.specs.Faults.{AreTokensOf}
use Rattle.hm_lex.specs.declared.token.Token.{Token}
use Rattle.hm_lex.proofs.Cuts.{one_cut}
use Rattle.hm_types.specs.Interfaces.{Exports as Interface}
use Rattle.hm_types.specs.StandardPrelude.{prelude_interface}
use Rattle.hm_syntax.specs.declared.ast.Module.{Module}
use Rattle.hm_parse_grammar.specs.Grammar.Modules.{Spells}
use Rattle.hm_parse_grammar.proofs.Whole.{spelled_once}
use Rattle.hm_run_sources.specs.SourceModules.{HasModules}
use Rattle.hm_names.specs.declared.faults.Fault.{Fault}
use Rattle.hm_names.specs.declared.faults.Kind.TheVariants.{Arity, NotImported, Untyped}
use Rattle.hm_verdicts.specs.ModuleVerdicts.{Verdict, Good, Faulty, IsVerdict}
use Rattle.hm_verdicts.specs.Worked.{module_A, module_B}
use Rattle.hm_verdicts.specs.WorkedVerdicts.{fault_Z, interface_A}
use Rattle.hm_verdicts.proofs.OneModuleVerdict.{one_module_verdict}
use Rattle.hm_verdicts.proofs.WorkedModules.{faulty_B, good_A}
use Rattle.hm_messages_trials.specs.TypedSources.{AreTyped, HasTypesIn, IsElsewhere, IsModuleIn}
use Rattle.hm_messages_trials.specs.Worked.{HolesRow, PartsRow, TypesRow, VerdictsRow, reported_by}

pub worked_holes : HolesRow
worked_holes = record {
  argument = refl;
  nothing = λ e. absurd (omega (arith, ap length e));
}

pub worked_parts : PartsRow
worked_parts = record {
  argument = record { some = omega arith; within = omega arith; start_is = refl; end_is = refl };
  empty = λ p. absurd (omega (arith, p.some));
}

none : {X : Type 0} (P : X → Type 0) → All P []
none P i d l = absurd (omega (arith, l))

other : ¬ (codes "f" ≡ codes "g")
other e = let different : 102 ≡ 103 = ap (λ (l : List ℕ). get_or l 0 0) e in absurd (omega (arith, different))

not_named : ¬ (Contains (codes "f" ∷ []) (codes "g"))
not_named there = All-contains (λ (n : List ℕ). ¬ (n ≡ codes "g")) (codes "f" ∷ []) (codes "g") (All-cons (λ (n : List ℕ). ¬ (n ≡ codes "g")) (codes "f") [] other (none (λ (n : List ℕ). ¬ (n ≡ codes "g")))) there refl

first_of : (f : Fault) → AreTyped (codes "f" ∷ []) (Faulty (f ∷ [])) → IsElsewhere (codes "f" ∷ []) f
first_of f all = all 0 f (omega arith)

only : (f : Fault) → IsElsewhere (codes "f" ∷ []) f → AreTyped (codes "f" ∷ []) (Faulty (f ∷ []))
only f h = All-cons (IsElsewhere (codes "f" ∷ [])) f [] h (none (IsElsewhere (codes "f" ∷ [])))

good : (f : Interface) → AreTyped (codes "f" ∷ []) (Good f)
good f = tt

not_arity : ¬ (Arity ≡ Untyped)
not_arity e = cc

pub worked_verdicts : VerdictsRow
worked_verdicts = record {
  good = good;
  elsewhere = only (reported_by Untyped (codes "g")) (refl, not_named);
  here = λ all. (first_of (reported_by Untyped (codes "f")) all).1 (0, omega arith, refl);
  of_names = λ all. not_arity (first_of (reported_by Arity (codes "g")) all).0;
}

-- ---- a source has one list of modules

one_tokens : (source : List ℕ) (ts us : List Token) → AreTokensOf source ts → AreTokensOf source us → ts ≡ us
one_tokens source ts us a b = a.tokens_are ∙ (ap tokens_of (one_cut a.pieces b.pieces source a.cut b.cut) ∙ sym b.tokens_are)

one_list : (source : List ℕ) (ms ns : List Module) → HasModules source ms → HasModules source ns → ms ≡ ns
one_list source ms ns a b =
    spelled_once source a.tokens ms ns a.parsed (subst (λ ts. Spells ns source ts) (sym (one_tokens source a.tokens b.tokens a.lexed b.lexed)) b.parsed)

-- so a module in a source of one module is that one
pub only_module : (source name : List ℕ) (m p : Module) → HasModules source (m ∷ []) → IsModuleIn source name p → p ≡ m
only_module source name m p h i =
    All-contains (λ (q : Module). q ≡ m) (m ∷ []) p (All-cons (λ (q : Module). q ≡ m) m [] refl (none (λ (q : Module). q ≡ m)))
    (subst (λ (ms : List Module). Contains ms p) (one_list source i.modules (m ∷ []) i.read h) i.among)

-- and its verdict in that source is the one that it has
typed_as : (source name : List ℕ) (fs : List Interface) (names : List (List ℕ)) (m : Module) (v : Verdict) → HasModules source (m ∷ []) → IsVerdict m (prelude_interface ∷ fs) v
    → HasTypesIn source name fs names → AreTyped names v
typed_as source name fs names m v h right t =
    let same : t.«module» ≡ m = only_module source name m t.«module» h t.spelled in
    let own : IsVerdict m (prelude_interface ∷ fs) t.verdict = subst (λ (q : Module). IsVerdict q (prelude_interface ∷ fs) t.verdict) same t.right in
    subst (AreTyped names) (one_module_verdict m (prelude_interface ∷ fs) t.verdict v own right) t.typed

of_good : (source : List ℕ) (names : List (List ℕ)) → HasModules source (module_A ∷ []) → HasTypesIn source (codes "A") [] names
of_good source names h = record {
  «module» = module_A;
  spelled = record { modules = module_A ∷ []; read = h; among = (0, omega arith, refl); named = refl };
  of_imports = refl;
  verdict = Good interface_A;
  right = good_A;
  typed = tt;
}

different : ¬ (codes "A" ≡ codes "B")
different e = let q : 65 ≡ 66 = ap (λ (l : List ℕ). get_or l 0 0) e in absurd (omega (arith, q))

of_unnamed : (source : List ℕ) (names : List (List ℕ)) → HasModules source (module_A ∷ []) → ¬ (HasTypesIn source (codes "B") [] names)
of_unnamed source names h t =
    let same : t.«module» ≡ module_A = only_module source (codes "B") module_A t.«module» h t.spelled in
    different (ap (λ (m : Module). m.header.name.text) (sym same) ∙ t.spelled.named)

not_import : ¬ (NotImported ≡ Untyped)
not_import e = cc

of_names : (source : List ℕ) (names : List (List ℕ)) → HasModules source (module_B ∷ []) → ¬ (HasTypesIn source (codes "B") [] names)
of_names source names h t =
    let all : All (IsElsewhere names) (fault_Z ∷ []) = typed_as source (codes "B") [] names module_B (Faulty (fault_Z ∷ [])) h faulty_B t in
    not_import (all 0 fault_Z (omega arith)).0

of_untyped : (source name : List ℕ) (fs : List Interface) (names : List (List ℕ)) (m : Module) (found : List Fault) (f : Fault) → HasModules source (m ∷ [])
    → IsVerdict m (prelude_interface ∷ fs) (Faulty found) → Contains found f → Contains names f.name → ¬ (HasTypesIn source name fs names)
of_untyped source name fs names m found f h right there named t =
    let all : All (IsElsewhere names) found = typed_as source name fs names m (Faulty found) h right t in
    (All-contains (IsElsewhere names) found f all there).1 named

pub worked_types : TypesRow
worked_types = record { good = of_good; unnamed = of_unnamed; of_names = of_names; untyped = of_untyped }
