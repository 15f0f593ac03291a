-- Laws of names that mean the same, as statements.
use Rattle.std.specs.Prelude.{◌≡◌, ℕ, List}
use Rattle.hm_lex.specs.declared.token.Place.{Place}
use Rattle.hm_uses_references.specs.References.{AreReferences}
use Rattle.hm_uses_references.specs.SetNames.{IsSame, SetName}
use Rattle.hm_uses_references.specs.declared.finding.Reference.{Reference}

-- a place has one list of references
abbrev pub ReferencesAreOneList : Type 0
ReferencesAreOneList = (names : List SetName) (source : ℕ) (place : Place) (some others : List Reference) → AreReferences names source place some → AreReferences names source place others → some ≡ others

-- names that mean the same are classes
abbrev pub SameIsSymmetric : Type 0
SameIsSymmetric = (m n : SetName) → IsSame m n → IsSame n m

abbrev pub SameIsTransitive : Type 0
SameIsTransitive = (m n o : SetName) → IsSame m n → IsSame n o → IsSame m o
