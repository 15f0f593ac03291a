-- Near names of modules.
use Rattle.std.specs.Prelude.{codes}
use Rattle.std.proofs.Common.{◌≡◌, ◌∙◌, ℕ, zero, suc, ◌<◌, All, List, [], ◌∷◌, Contains, Some, ap, arith, get_or, inl, inr, length, refl, subst, sym}
use Rattle.std.proofs.lemmas.List.Elements.{All-contains}
use Rattle.hm_syntax.specs.declared.ast.Import.{Import}
use Rattle.hm_run_sources.specs.Origins.{AreLocated}
use Rattle.hm_run_sources.specs.declared.located.Located.{Located}
use Rattle.hm_messages_details.specs.Nearness.{AreNear}
use Rattle.hm_messages.specs.Missing.{HasNearModule, HasNoImport, IsImportable}
use Rattle.hm_messages.specs.Worked.{NearModuleRow}

-- Prelude is near
pub near_prelude : (sources : List (List ℕ)) (ls : List Located) (name : List ℕ) → AreLocated sources ls → AreNear name (codes "Prelude") → HasNearModule sources name (Some (codes "Prelude"))
near_prelude sources ls name are near = (ls, are, inl refl, near)

-- the module with this number is near
pub near_own : (sources : List (List ℕ)) (ls : List Located) (name : List ℕ) (k : ℕ) (l : Located) → AreLocated sources ls → k < length ls → get_or ls k l ≡ l → HasNoImport l name → AreNear name l.header.name.text
    → HasNearModule sources name (Some l.header.name.text)
near_own sources ls name k l are within is free near = (ls, are, inr (l, (k, within, is), refl, free), near)

none_there : ¬ (HasNearModule [] (codes "Lists") (Some (codes "List")))
none_there (ls, are, inl is, near) = let clash : 76 ≡ 80 = ap (λ (l : List ℕ). get_or l 0 0) is in absurd (omega (arith, clash))
none_there (ls, are, inr (l, (k, within, is), named, free), near) =
    let none : length ls ≡ 0 = are.as_many ∙ ap length are.read in
    absurd (omega (arith, within, none))

-- an import of a module without imports
none_imported : (name : List ℕ) (is : List Import) → is ≡ [] → All (λ (n : Import). ¬ (n.name.text ≡ name)) is
none_imported name is none i d low = absurd (omega (arith, low, ap length none))

not_itself : (l : Located) (i : Import) → l.header.name.text ≡ codes "List" → l.header.imports ≡ i ∷ [] → i.name.text ≡ codes "Lists" → ¬ (IsImportable (l ∷ []) (codes "Lists") (codes "List"))
not_itself l i called one named (inl is) = let clash : 76 ≡ 80 = ap (λ (l : List ℕ). get_or l 0 0) is in absurd (omega (arith, clash))
not_itself l i called one named (inr (m, (zero, within, is), text, free)) =
    let same : m.header.imports ≡ i ∷ [] = ap (λ (x : Located). x.header.imports) (sym is) ∙ one in
    let among : Contains m.header.imports i = subst (λ (is : List Import). Contains is i) (sym same) (0, omega arith, refl) in
    All-contains (λ (n : Import). ¬ (n.name.text ≡ codes "Lists")) m.header.imports i free among named
not_itself l i called one named (inr (m, (suc k, within, is), text, free)) = absurd (omega (arith, within))

pub worked_near_modules : NearModuleRow
worked_near_modules = record {
  prelude = λ are near. near_prelude [] [] (codes "Prelud") are near;
  own = λ sources l y are none near. near_own sources (l ∷ []) y 0 l are (omega arith) refl (none_imported y l.header.imports none) near;
  not_itself = not_itself;
  none_there = none_there;
}
