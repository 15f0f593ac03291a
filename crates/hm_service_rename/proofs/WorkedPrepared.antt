-- Worked examples of the name that a rename is of.
use Rattle.std.proofs.Common.{◌≡◌, ◌∙◌, ◌∷◌, [], ℕ, Contains, List, ap, arith, codes, false, get_or, length, refl, string_bytes, subst, sym, true}
use Rattle.std.specs.List.{Any}
use Rattle.std.proofs.lemmas.List.Elements.{Contains-get_or}
use Rattle.hm_service_rename.specs.Prepared.{IsTarget}
use Rattle.hm_service_rename.specs.PreparedRow.{TargetRow}
use Rattle.hm_service_rename.specs.declared.results.Target.{Target}
use Rattle.hm_uses_references.proofs.WorkedNames.{worked_references}
use Rattle.hm_uses_references.specs.References.{names_at}
use Rattle.hm_uses_references.specs.SetNames.{SetName}
use Rattle.hm_uses_references.specs.Worked.{at_column, letter_at, names, qualified_x}

only : names_at 1 (at_column 37) names ≡ qualified_x ∷ []
only = refl

none : names_at 1 (at_column 1) names ≡ []
none = refl

qualified : (t : Target) → t.reference ≡ letter_at 1 39 false → string_bytes t.name ≡ codes "x" → IsTarget names 1 (at_column 37) t
qualified t reference name = record {
  one = qualified_x;
  at = Contains-get_or (qualified_x ∷ []) 0 qualified_x (omega arith);
  reference = reference;
  text = name;
  references = letter_at 0 18 true ∷ letter_at 1 39 false ∷ [];
  referring = worked_references.of_entity;
  bound = (0, letter_at 0 18 true, omega arith, refl, refl);
}

one_of : (x : SetName) → Contains (qualified_x ∷ []) x → x ≡ qualified_x
one_of x (i, low, at) = let first : i ≡ 0 = omega (arith, low) in sym (subst (λ (k : ℕ). get_or (qualified_x ∷ []) k x ≡ x) first at)

not_qualifier : (t : Target) → string_bytes t.name ≡ codes "A.x" → IsTarget names 1 (at_column 37) t → ⊥
not_qualifier t name h =
    let one : h.one ≡ qualified_x = one_of h.one (subst (λ (l : List SetName). Contains l h.one) only h.at) in
    let text : codes "A.x" ≡ codes "x" = sym name ∙ h.text ∙ ap (λ (n : SetName). n.used.mention.name.text) one in
    let z : 3 ≡ 1 = ap (λ (l : List ℕ). length l) text in
    omega (arith, z)

no_member : (x : SetName) → Contains [] x → ⊥
no_member x (i, low, at) = omega (arith, low)

pub worked_target : TargetRow
worked_target = record {
  qualified = qualified;
  not_qualifier = not_qualifier;
  not_elsewhere = λ t h. no_member h.one (subst (λ (l : List SetName). Contains l h.one) none h.at);
}
