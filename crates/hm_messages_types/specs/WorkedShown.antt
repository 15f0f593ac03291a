-- Worked examples of types as they are shown.
use Rattle.std.specs.Prelude.{◌≡◌, [], ◌∷◌, codes}
use Rattle.hm_types.specs.Monotypes.{Mono}
use Rattle.hm_types.specs.Types.{App as app, done as none, more}
use Rattle.hm_types.specs.declared.Head.TheVariants.{Tuple}
use Rattle.hm_types.specs.declared.Head.TheVariants as head
use Rattle.hm_types.specs.declared.entries.SynonymEntry.{SynonymEntry}
use Rattle.hm_messages_types.specs.Shown.{IsAlias, IsFolded, NamedType}

-- Pos stands for a pair of units
abbrev pub pos : NamedType
pos = record { name = codes "Pos"; text = codes "((), ())" }

-- A stands for the type A of the module M
abbrev pub bare : NamedType
bare = record { name = codes "A"; text = codes "M.A" }

abbrev pub unit : Mono
unit = app head.Unit none

abbrev pub pair : Mono
pair = app (Tuple 2) (more unit (more unit none))

-- Pos is shown for each pair of units, and for no other type
pub record FoldedRow : Type 0 where
  pub twice : IsFolded (pos ∷ []) (codes "((), ()) -> ((), ())") (codes "Pos -> Pos")
  pub inside : IsFolded (pos ∷ []) (codes "[((), ())]") (codes "[Pos]")
  pub other : ¬ (IsFolded (pos ∷ []) (codes "[()]") (codes "[Pos]"))

-- A is shown for M.A, and not in place of the beginning of M.AB
pub record WholeNamesRow : Type 0 where
  pub whole : IsFolded (bare ∷ []) (codes "M.A -> [M.AB]") (codes "A -> [M.AB]")
  pub cut : ¬ (IsFolded (bare ∷ []) (codes "M.AB") (codes "AB"))

-- a synonym of the module A without parameters is a name for its pair. One with a parameter isn't, nor is one of the module B, nor one for the unit type
pub record AliasRow : Type 0 where
  pub own : (e : SynonymEntry) → e.name ≡ codes "Pos" → e.entity.«module» ≡ codes "A" → e.entity.name ≡ codes "Pos" → e.synonym ≡ record { parameters = 0; body = pair } → IsAlias (codes "A") e pos
  pub applied : (e : SynonymEntry) (n : NamedType) → e.synonym.parameters ≡ 1 → ¬ (IsAlias (codes "A") e n)
  pub imported : (e : SynonymEntry) (n : NamedType) → e.entity.«module» ≡ codes "B" → ¬ (IsAlias (codes "A") e n)
  pub bare : (e : SynonymEntry) (n : NamedType) → e.synonym ≡ record { parameters = 0; body = unit } → ¬ (IsAlias (codes "A") e n)
