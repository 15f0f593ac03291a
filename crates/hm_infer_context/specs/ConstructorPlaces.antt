-- The table of the places of constructors. No public clause names it.
use Rattle.std.specs.Prelude.{◌≡◌, ℕ, List, None, Some}
use Rattle.std.specs.List.{slice_get}
use Rattle.hm_types.specs.declared.Entity.{Entity}
use Rattle.hm_names_keys.specs.Keys.{Table, number_of}
use Rattle.hm_names_keys.specs.Variables.{Variable}
use Rattle.hm_names.specs.Described.{first_of}
use Rattle.hm_infer_context.specs.declared.constructors.Entry.{Entry}
use Rattle.hm_infer_context.specs.Kept.{scheme_of, schemes_of}

abbrev pub key_of_entity : Entity → Variable
key_of_entity e = record { qualifier = Some e.«module»; text = e.name }

-- the table has, for each constructor, the place in `all` of its first entry in `some`
pub record AreFirstPlaces (all some : List Entry) (table : Table) : Type 0 where
  pub found : (e : Entity) (p : ℕ) → number_of table (key_of_entity e) ≡ Some p → (d : Entry) × ((slice_get all p ≡ Some d) × (first_of (λ d. d.entity) e (schemes_of some) ≡ Some (scheme_of d)))
  pub none : (e : Entity) → number_of table (key_of_entity e) ≡ None → first_of (λ d. d.entity) e (schemes_of some) ≡ None
