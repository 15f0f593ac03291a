-- Where a module declares an entity: the first name that binds it.
use Rattle.std.specs.Prelude.{◌≡◌, ℕ, ◌<◌, true, List, All, length, slice_index_or, take}
use Rattle.hm_lex.specs.declared.token.Place.{Place}
use Rattle.hm_types.specs.declared.Entity.{Entity}
use Rattle.hm_uses.specs.Uses.{UseOf, an_entity}
use Rattle.hm_uses.specs.declared.name_kind.NameKind.{NameKind}

-- the use binds or declares the entity under a name of this kind
pub record Declares (kind : NameKind) (e : Entity) (u : UseOf) : Type 0 where
  pub binds : u.mention.binds ≡ true
  pub of_kind : u.mention.kind ≡ kind
  pub means : u.sense ≡ an_entity e

-- the place of the first of these uses that declares the entity
pub record IsDeclaredAt (kind : NameKind) (e : Entity) (us : List UseOf) (place : Place) : Type 0 where
  pub number : ℕ
  pub inside : number < length us
  pub declares : (d : UseOf) → Declares kind e (slice_index_or us number d)
  pub none_before : All (λ u. ¬ (Declares kind e u)) (take number us)
  pub line : (d : UseOf) → place.line ≡ (slice_index_or us number d).mention.name.line
  pub column : (d : UseOf) → place.column ≡ (slice_index_or us number d).mention.name.column
