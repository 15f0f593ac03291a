-- The names of a set that mean the same as the name at a place.
use Rattle.std.specs.Prelude.{◌≡◌, ◌==◌, ◌&&◌, ◌+◌, ◌⊎◌, Bool, ℕ, List, [], ◌∷◌, length, map}
use Rattle.std.specs.List.{Any, filter}
use Rattle.hm_lex.specs.declared.token.Place.{Place}
use Rattle.hm_uses_places.specs.Places.{is_on, qualifier_length}
use Rattle.hm_uses_references.specs.SetNames.{IsSame, SetName}
use Rattle.hm_uses_references.specs.declared.finding.Reference.{Reference}

-- the members of a list with a property, in order
abbrev pub AreChosen : {X : Type 0} → (X → Type 0) → List X → List X → Type 0
AreChosen P [] chosen = chosen ≡ []
AreChosen P (x ∷ xs) chosen = (P x × ((later : List _) × ((chosen ≡ x ∷ later) × AreChosen P xs later))) ⊎ ((P x → ⊥) × AreChosen P xs chosen)

-- the name is at the place of the source
abbrev pub is_at : ℕ → Place → SetName → Bool
is_at source place n = (n.source == source) && is_on place n.used.mention.name

abbrev pub names_at : ℕ → Place → List SetName → List SetName
names_at source place names = filter (is_at source place) names

-- where the name is written, without its qualifier
abbrev pub reference_of : SetName → Reference
reference_of n = record {
  source = n.source;
  line = n.used.mention.name.line;
  column = n.used.mention.name.column + qualifier_length n.used.mention.name.qualifier;
  length = length n.used.mention.name.text;
  binds = n.used.mention.binds;
}

-- these are the places of the names that mean the same as one of the others
abbrev pub AreReferred : List SetName → List SetName → List Reference → Type 0
AreReferred on names references = (chosen : List SetName) × (AreChosen (λ n. Any (λ m. IsSame m n) on) names chosen × (references ≡ map reference_of chosen))

abbrev pub HasNoName : List SetName → ℕ → Place → Type 0
HasNoName names source place = names_at source place names ≡ []

-- a name is at the place of the source, and these are the places of all names that mean the same, in order
pub record AreReferences (names : List SetName) (source : ℕ) (place : Place) (references : List Reference) : Type 0 where
  pub named : ¬ (HasNoName names source place)
  pub referred : AreReferred (names_at source place names) names references
