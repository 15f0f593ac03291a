-- The worked types of parts.
use Rattle.std.proofs.Common.{◌≡◌, ◌∙◌, Bool, true, false, inl, inr, ℕ, List, [], ◌∷◌, ◌++◌, Contains, length, get_or, refl, sym, ap, subst, arith}
use Rattle.std.specs.Prelude.{codes, slice_range}
use Rattle.std.proofs.lemmas.List.Elements.{All-contains, All-cons}
use Rattle.hm_types.specs.Interfaces.{Exports as Interface}
use Rattle.hm_types.specs.Monotypes.{Mono, Monos, var}
use Rattle.hm_types.specs.Schemes.{TypeScheme}
use Rattle.hm_types.specs.StandardPrelude.{prelude_interface}
use Rattle.hm_types.specs.Types.{Var as leaf, App as app, done as none, more}
use Rattle.hm_types.specs.declared.Head.TheVariants as head
use Rattle.hm_types_display.specs.Texts.{scheme_text_of}
use Rattle.hm_types.specs.declared.entries.ValueEntry.{ValueEntry}
use Rattle.hm_syntax.specs.declared.ast.Module.{Module}
use Rattle.hm_run_sources.specs.SourceModules.{HasModules}
use Rattle.hm_verdicts.specs.ModuleVerdicts.{Verdict, Good, Faulty, IsVerdict}
use Rattle.hm_names.specs.Worked.{at, x}
use Rattle.hm_verdicts.specs.Worked.{module_A, module_B}
use Rattle.hm_verdicts.specs.WorkedVerdicts.{character, entry_x, fault_Z, interface_A}
use Rattle.hm_verdicts.proofs.OneModuleVerdict.{one_module_verdict}
use Rattle.hm_verdicts.proofs.WorkedModules.{faulty_B, good_A}
use Rattle.hm_messages_changes.specs.Holes.{hole}
use Rattle.hm_messages_types.specs.CommonInstances.{HaveCommonInstance}
use Rattle.hm_messages_types.specs.InfiniteTypes.{NeedInfinite}
use Rattle.hm_messages_types.proofs.NoFiniteType.{no_common_instance}
use Rattle.hm_messages_trials.specs.PartTypes.{AreTextsOf, ExportsIn}
use Rattle.hm_messages_changes.specs.Probes.{hollowed}
use Rattle.hm_messages_trials.specs.Signatures.{IsGood, IsGoodIn}
use Rattle.hm_messages_trials.specs.WorkedPartTypes.{ExportsRow, GoodRow, OthersRow, ProbesRow, InfiniteRow, SignaturesRow, SignedRow, TextsRow, a, applied_to_itself, b, equal_types, function, swapped, tuple, two_variables}
use Rattle.hm_messages_changes.specs.declared.data.Other.{Other}
use Rattle.hm_messages_trials.specs.TypedSources.{IsSigned}
use Rattle.hm_messages_trials.proofs.WorkedHoles.{only_module}

pub worked_probes : ProbesRow
worked_probes = record {
  argument = refl;
  signed = refl;
  listed = refl;
  named = refl;
  unlisted = λ e. let other : 102 ≡ 112 = ap (λ (l : List ℕ). get_or l 10 0) e in absurd (omega (arith, other));
}

hollow_g : (g : Other) → g.name.now ≡ codes "g" → g.from ≡ 0 → g.to ≡ 5 → hollowed (codes "g = 1 ; f") 0 9 (g ∷ []) ≡ codes "g = (let { h = h } in h) ; f"
hollow_g g name from to =
    let text : List ℕ → ℕ → ℕ → List ℕ = λ n i j. slice_range (codes "g = 1 ; f") 0 i ++ n ++ codes " = " ++ hole ++ slice_range (codes "g = 1 ; f") j 9 in
    ap (λ (n : List ℕ). text n g.from g.to) name ∙ (ap (λ (i : ℕ). text (codes "g") i g.to) from ∙ ap (λ (j : ℕ). text (codes "g") 0 j) to)

pub worked_others : OthersRow
worked_others = record {
  hollow = hollow_g;
  none = λ e. absurd (omega (arith, ap length e));
}

pub worked_signatures : SignaturesRow
worked_signatures = record {
  gone = refl;
  stays = λ e. absurd (omega (arith, ap length e));
  own = refl;
}

-- the arguments of a type, and the first one and the rest of some
abbrev arguments : Mono → Monos
arguments (leaf v) = none
arguments (app h ts) = ts

abbrev first_of : Mono → Monos → Mono
first_of d none = d
first_of d (more t ts) = t

abbrev rest_of : Monos → Monos
rest_of none = none
rest_of (more t ts) = ts

-- the second and the third of three types, and the third one, which a function takes
abbrev last_two : Mono → Monos
last_two t = rest_of (arguments (first_of t (arguments t)))

abbrev expected_in : Mono → Mono
expected_in t = first_of t (last_two t)

abbrev actual_in : Mono → Mono
actual_in t = first_of t (rest_of (last_two t))

not_exchanged : (signed infinite : Bool) → ¬ (AreTextsOf applied_to_itself signed (codes "a -> b") (codes "a -> b") (codes "a") infinite)
not_exchanged signed infinite h =
    let first : a ≡ h.expected_type = ap expected_in h.three in
    let text : codes "a -> b" ≡ codes "a" = subst (λ (t : Mono). codes "a -> b" ≡ scheme_text_of (record { vars = 2; body = t })) (sym first) h.expected_is in
    absurd (omega (arith, ap length text))

not_equal : (signed : Bool) (o t u : List ℕ) (infinite : Bool) → ¬ (AreTextsOf equal_types signed o t u infinite)
not_equal signed o t u infinite h = h.apart (sym (ap expected_in h.three) ∙ ap actual_in h.three)

-- two variables need no infinite type
not_infinite : (signed : Bool) (o t u : List ℕ) → ¬ (AreTextsOf two_variables signed o t u true)
not_infinite signed o t u h =
    subst (λ (x : Mono). NeedInfinite a x) (sym (ap actual_in h.three)) (subst (λ (x : Mono). NeedInfinite x h.actual_type) (sym (ap expected_in h.three)) (h.contained refl))

a_function : ¬ (a ≡ function a b)
a_function e = cc

-- with () for both variables (a, b) and (b, a) are equal
not_agreeing : (o t u : List ℕ) (infinite : Bool) → ¬ (AreTextsOf swapped false o t u infinite)
not_agreeing o t u infinite h =
    let units : HaveCommonInstance (tuple b a) (tuple a b) = (λ n. app head.Unit none, refl) in
    let first : HaveCommonInstance h.expected_type (tuple a b) = subst (λ (x : Mono). HaveCommonInstance x (tuple a b)) (ap expected_in h.three) units in
    h.clash refl (subst (HaveCommonInstance h.expected_type) (ap actual_in h.three) first)

apart_from_a : ¬ (HaveCommonInstance a (function a b))
apart_from_a (f, e) = no_common_instance a (function a b) f refl e

swapped_tuples : ¬ (tuple b a ≡ tuple a b)
swapped_tuples e = cc

pub worked_texts : TextsRow
worked_texts = record {
  itself = record { own_type = function a b; expected_type = a; actual_type = function a b; three = refl; apart = a_function; clash = λ e. apart_from_a; own_is = refl; expected_is = refl; actual_is = refl; contained = λ e. refl };
  lettered = record { own_type = function (tuple a b) (tuple b a); expected_type = tuple b a; actual_type = tuple a b; three = refl; apart = swapped_tuples; clash = λ e. cc; own_is = refl; expected_is = refl; actual_is = refl; contained = λ e. cc };
  agreeing = not_agreeing;
  exchanged = not_exchanged;
  equal = not_equal;
  finite = not_infinite;
}

pub worked_infinite : InfiniteRow
worked_infinite = record {
  itself = refl;
  inside = (refl, inr (inl refl));
  variables = λ n. n;
  apart = λ n. cc;
}

here : (source : List ℕ) → HasModules source (module_A ∷ []) → ExportsIn source (codes "A") [] (codes "x") character
here source h = record {
  «module» = module_A;
  spelled = record { modules = module_A ∷ []; read = h; among = (0, omega arith, refl); named = refl };
  of_imports = refl;
  exports = interface_A;
  right = good_A;
  exported = record { entry = entry_x character; listed = (0, omega arith, refl); named = refl; scheme_is = refl };
}

-- the interface in a verdict
abbrev interface_in : Interface → Verdict → Interface
interface_in d (Good f) = f
interface_in d (Faulty found) = d

no_y : (e : ValueEntry) → Contains interface_A.values e → ¬ (e.name ≡ codes "y")
no_y e there =
    All-contains (λ (v : ValueEntry). ¬ (v.name ≡ codes "y")) (entry_x character ∷ []) e
    (All-cons (λ (v : ValueEntry). ¬ (v.name ≡ codes "y")) (entry_x character) [] (λ q. let other : 120 ≡ 121 = ap (λ (l : List ℕ). get_or l 0 0) q in absurd (omega (arith, other))) (λ i d l. absurd (omega (arith, l)))) there

other : (source : List ℕ) (s : TypeScheme) → HasModules source (module_A ∷ []) → ¬ (ExportsIn source (codes "A") [] (codes "y") s)
other source s h e =
    let same : e.«module» ≡ module_A = only_module source (codes "A") module_A e.«module» h e.spelled in
    let own : IsVerdict module_A (prelude_interface ∷ []) (Good e.exports) = subst (λ (m : Module). IsVerdict m (prelude_interface ∷ []) (Good e.exports)) same e.right in
    let one : Good e.exports ≡ Good interface_A = one_module_verdict module_A (prelude_interface ∷ []) (Good e.exports) (Good interface_A) own good_A in
    let is : e.exports ≡ interface_A = ap (interface_in interface_A) one in
    no_y e.exported.entry (subst (λ (f : Interface). Contains f.values e.exported.entry) is e.exported.listed) e.exported.named

pub worked_exports : ExportsRow
worked_exports = record { here = here; other = other }

good_here : (source : List ℕ) → HasModules source (module_A ∷ []) → IsGoodIn source (codes "A") []
good_here source h = record {
  «module» = module_A;
  spelled = record { modules = module_A ∷ []; read = h; among = (0, omega arith, refl); named = refl };
  of_imports = refl;
  verdict = Good interface_A;
  right = good_A;
  good = tt;
}

not_good : (source : List ℕ) → HasModules source (module_B ∷ []) → ¬ (IsGoodIn source (codes "B") [])
not_good source h g =
    let same : g.«module» ≡ module_B = only_module source (codes "B") module_B g.«module» h g.spelled in
    let own : IsVerdict module_B (prelude_interface ∷ []) g.verdict = subst (λ (m : Module). IsVerdict m (prelude_interface ∷ []) g.verdict) same g.right in
    subst IsGood (one_module_verdict module_B (prelude_interface ∷ []) g.verdict (Faulty (fault_Z ∷ [])) own faulty_B) g.good

pub worked_good : GoodRow
worked_good = record { good = good_here; faulty = not_good }

not_signed : ¬ (IsSigned module_A (codes "x"))
not_signed s = absurd (omega (arith, s.written.1))

pub worked_signed : SignedRow
worked_signed = record {
  signed = record { name = at 18 x; written = (0, omega arith, refl); named = refl };
  unsigned = not_signed;
}
