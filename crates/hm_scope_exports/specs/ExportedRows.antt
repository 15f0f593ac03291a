-- The exports of a namespace as a row. No public clause names these.
use Rattle.std.specs.Prelude.{◌≡◌, ℕ, List, map, Contains, bytes_eq}
use Rattle.std.specs.List.{IsDistinct}
use Rattle.hm_types.specs.declared.Entity.{Entity}
use Rattle.hm_names.specs.declared.cores.Exported.{Exported}
use Rattle.hm_names.specs.declared.namespace.Namespace.{Namespace}
use Rattle.hm_names.specs.Bindings.{Pair}

-- each name has one entity in each namespace
abbrev pub HaveOneEntity : List Pair → Type 0
HaveOneEntity ps = (p q : Pair) → Contains ps p → Contains ps q → p.space ≡ q.space → p.text ≡ q.text → p.entity ≡ q.entity

-- in the namespace, the name has this entity
abbrev pub IsBound : List Pair → Namespace → List ℕ → Entity → Type 0
IsBound ps s x e = (p : Pair) × (Contains ps p × ((p.space ≡ s) × ((p.text ≡ x) × (p.entity ≡ e))))

-- an entity with its exported name
abbrev pub exported_of : Pair → Exported
exported_of p = record { name = p.text; entity = p.entity }

-- one of the seen bindings for each name of the namespace
pub record AreOnePerName (s : Namespace) (seen : List Pair) (names : List (List ℕ)) (out : List Pair) : Type 0 where
  pub names_are : names ≡ map (λ p. p.text) out
  pub distinct : IsDistinct bytes_eq names
  pub sound : (p : Pair) → Contains out p → Contains seen p × (p.space ≡ s)
  pub complete : (p : Pair) → Contains seen p → p.space ≡ s → Contains names p.text
