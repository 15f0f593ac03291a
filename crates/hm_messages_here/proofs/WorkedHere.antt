-- The worked types of names at their places.
use Rattle.std.proofs.Common.{◌≡◌, ◌∙◌, inl, inr, ⊎_elim, Bool, true, false, ℕ, ◌+◌, List, [], ◌∷◌, ◌++◌, Contains, length, map, take, drop, get_or, refl, sym, ap, subst, arith}
use Rattle.std.specs.Prelude.{codes, flat_map, slice_range}
use Rattle.std.proofs.lemmas.List.{take-append-drop}
use Rattle.std.proofs.lemmas.List.Elements.{All-contains, All-cons}
use Rattle.hm_types.specs.Interfaces.{Exports as Interface}
use Rattle.hm_types.specs.Monotypes.{Mono, Monos}
use Rattle.hm_types.specs.Schemes.{TypeScheme}
use Rattle.hm_types.specs.StandardPrelude.{prelude_interface}
use Rattle.hm_types.specs.Types.{Var as leaf, App as app, done as none, more}
use Rattle.hm_types.specs.declared.entries.ValueEntry.{ValueEntry}
use Rattle.hm_types_display.specs.Texts.{scheme_text_of}
use Rattle.hm_syntax.specs.Names.{Identifier}
use Rattle.hm_syntax.specs.Trees.{Declaration, Pattern, Patterns, RightSide, clause, pattern_binding}
use Rattle.hm_syntax.specs.declared.ast.Module.{Module}
use Rattle.hm_run_sources.specs.SourceModules.{HasModules}
use Rattle.hm_verdicts.specs.ModuleVerdicts.{Verdict, Good, Faulty, IsVerdict}
use Rattle.hm_names.proofs.Members.{cases, none_in}
use Rattle.hm_verdicts.specs.Worked.{letter, module_A}
use Rattle.hm_verdicts.specs.WorkedVerdicts.{character, entry_x, interface_A}
use Rattle.hm_verdicts.proofs.OneModuleVerdict.{one_module_verdict}
use Rattle.hm_verdicts.proofs.WorkedModules.{good_A}
use Rattle.hm_messages_changes.specs.Blanks.{all_blanked, blank, defined, with_definitions}
use Rattle.hm_messages_changes.specs.declared.data.Other.{Other}
use Rattle.hm_messages_trials.proofs.WorkedHoles.{only_module}
use Rattle.hm_messages_here.specs.TypesHere.{AreTextsOf, HasTypes, IsWithout}
use Rattle.hm_messages_here.specs.Patterns.{IsTied, by_name, by_variables}
use Rattle.hm_messages_here.specs.Worked.{TextsRow, TiesRow, TypesRow, WithoutRow, a, b, function, second_parameter}

-- the arguments of a type, and the first one and the rest of some
abbrev arguments : Mono → Monos
arguments (leaf v) = none
arguments (app h ts) = ts

abbrev first_of : Mono → Monos → Mono
first_of d none = d
first_of d (more t ts) = t

abbrev rest_of : Monos → Monos
rest_of none = none
rest_of (more t ts) = ts

-- the second of two types that a function takes
abbrev second_in : Mono → Mono
second_in t = first_of t (rest_of (arguments (first_of t (arguments t))))

not_first : ¬ (AreTextsOf second_parameter (codes "a -> b -> a") (codes "a"))
not_first h =
    let second : b ≡ h.here_type = ap second_in h.pair in
    let text : codes "a" ≡ codes "b" = subst (λ (t : Mono). codes "a" ≡ scheme_text_of (record { vars = 2; body = t })) (sym second) h.here_is in
    let letter : 97 ≡ 98 = ap (λ (l : List ℕ). get_or l 0 0) text in
    absurd (omega (arith, letter))

pub worked_texts : TextsRow
worked_texts = record {
  lettered = record { own_type = function a (function b a); here_type = b; pair = refl; own_is = refl; here_is = refl };
  not_first = not_first;
}

-- the interface in a verdict
abbrev interface_in : Interface → Verdict → Interface
interface_in d (Good f) = f
interface_in d (Faulty found) = d

no_types : (e : ValueEntry) → Contains interface_A.values e → ¬ (e.name ≡ codes "part'types")
no_types e there =
    All-contains (λ (v : ValueEntry). ¬ (v.name ≡ codes "part'types")) (entry_x character ∷ []) e
    (All-cons (λ (v : ValueEntry). ¬ (v.name ≡ codes "part'types")) (entry_x character) [] (λ q. let letter : 120 ≡ 112 = ap (λ (l : List ℕ). get_or l 0 0) q in absurd (omega (arith, letter))) (λ i d l. absurd (omega (arith, l)))) there

none_exported : (source : List ℕ) (s : TypeScheme) → HasModules source (module_A ∷ []) → ¬ (HasTypes source (codes "A") [] s)
none_exported source s h e =
    let same : e.«module» ≡ module_A = only_module source (codes "A") module_A e.«module» h e.spelled in
    let own : IsVerdict module_A (prelude_interface ∷ []) (Good e.exports) = subst (λ (m : Module). IsVerdict m (prelude_interface ∷ []) (Good e.exports)) same e.right in
    let one : Good e.exports ≡ Good interface_A = one_module_verdict module_A (prelude_interface ∷ []) (Good e.exports) (Good interface_A) own good_A in
    let is : e.exports ≡ interface_A = ap (interface_in interface_A) one in
    no_types e.exported.entry (subst (λ (f : Interface). Contains f.values e.exported.entry) is e.exported.listed) e.exported.named

pub worked_types : TypesRow
worked_types = record { none = none_exported }

hole_f : (f : Other) → f.name.now ≡ codes "f" → f.from ≡ 0 → f.to ≡ 5 → IsWithout (codes "f = 1 ; g = 2") (codes "      ; g = 2 ; f = (let { h = h } in h)")
hole_f f name from to =
    let source = codes "f = 1 ; g = 2" in
    let text : List ℕ → ℕ → ℕ → List ℕ = λ n i j. with_definitions (take i source ++ (map blank (slice_range source i j) ++ drop j source)) 13 (n ∷ []) in
    inr (13, (f ∷ [], sym (ap (λ (n : List ℕ). text n f.from f.to) name ∙ (ap (λ (i : ℕ). text (codes "f") i f.to) from ∙ ap (λ (j : ℕ). text (codes "f") 0 j) to))))

-- a text that ends with another one is empty only if that is
end_empty : (xs ys : List ℕ) → [] ≡ xs ++ ys → [] ≡ ys
end_empty [] ys e = e
end_empty (x ∷ xs) ys e = absurd (cc)

is_empty : List ℕ → Bool
is_empty [] = true
is_empty (x ∷ xs) = false

not_empty : ¬ (IsWithout (codes "f = 1") [])
unfolding is_empty
not_empty (inl e) = absurd (omega (arith, ap length e))
not_empty (inr (at, ([], e))) = absurd (omega (arith, ap length (sym (take-append-drop at (codes "f = 1")) ∙ sym e)))
not_empty (inr (at, (d ∷ ds, e))) =
    let text = all_blanked (codes "f = 1") (d ∷ ds) in
    let after : List ℕ = flat_map defined (map (λ (x : Other). x.name.now) (d ∷ ds)) ++ drop at text in
    let none : [] ≡ after = end_empty (take at text) after e in
    let z : true ≡ false = ap is_empty none in
    absurd (cc)

pub worked_without : WithoutRow
worked_without = record { itself = inl refl; hole = hole_f; not_empty = not_empty }

no_clause : (line column : ℕ) (p : Pattern) (r : RightSide) (n : Identifier) (ps : Patterns) (s : RightSide) → ¬ (pattern_binding line column p r ≡ clause n ps s)
no_clause line column p r n ps s e = cc

untied : (source local : List ℕ) (from : ℕ) → HasModules source (module_A ∷ []) → ¬ (IsTied source (codes "A") from (codes "()") (codes "()") local)
untied source local from h (by_name e) = absurd (omega (arith, ap length e))
untied source local from h (by_variables name value s) =
    let same : s.«module» ≡ module_A = only_module source (codes "A") module_A s.«module» h s.spelled in
    let declared = subst (λ (m : Module). Contains m.decls (pattern_binding _ _ s.pattern s.side)) same s.declared in
    ⊎_elim (λ e. no_clause _ _ s.pattern s.side _ _ _ e) (λ o. none_in _ o) (cases letter [] _ declared)

pub worked_ties : TiesRow
worked_ties = record { both = refl; named = λ source local. by_name refl; no_pattern = untied }
