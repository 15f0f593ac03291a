-- A variable is known by its name in the typing's syntax.
use Rattle.std.proofs.Common.{◌≡◌, ℕ, List, [], Option, Some, None, refl, sym, ap, subst}
use Rattle.hm_typing.specs.Names.{Identifier, local, global, binding}
use Rattle.hm_names.specs.Syntax.{name_in}
use Rattle.hm_names_keys.specs.Variables.{Variable, identifier}

abbrev module_text : Identifier → List ℕ
module_text (local x) = []
module_text (global e) = e.«module»
module_text (binding m i) = []

abbrev bare_text : Identifier → List ℕ
bare_text (local x) = x
bare_text (global e) = e.name
bare_text (binding m i) = []

abbrev IsLocal : Identifier → Type 0
IsLocal (local x) = Unit {0}
IsLocal (global e) = ⊥
IsLocal (binding m i) = ⊥

same_parts : (p q : Option (List ℕ)) (x y : List ℕ) → name_in p x ≡ name_in q y → (p ≡ q) × (x ≡ y)
same_parts None None x y e = (refl, ap bare_text e)
same_parts None (Some q) x y e = absurd (subst IsLocal e tt)
same_parts (Some p) None x y e = absurd (subst IsLocal (sym e) tt)
same_parts (Some p) (Some q) x y e = (ap Some (ap module_text e), ap bare_text e)

pub identifier_injective : (x y : Variable) → identifier x ≡ identifier y → x ≡ y
identifier_injective x y e = let h = same_parts x.qualifier y.qualifier x.text y.text e in λ i. record { qualifier = h.0 i; text = h.1 i }
