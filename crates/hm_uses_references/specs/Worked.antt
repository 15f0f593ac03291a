-- Worked examples: the names of two modules, and which of them mean the same.
use Rattle.std.specs.Prelude.{ℕ, Bool, List, [], ◌∷◌, Option, codes, true, false, None, Some}
use Rattle.hm_lex.specs.declared.token.Place.{Place}
use Rattle.hm_names.specs.Entities.{named}
use Rattle.hm_uses.specs.Uses.{Sense, an_entity, a_module, local_variable, unbound}
use Rattle.hm_uses.specs.declared.name_kind.NameKind.{NameKind}
use Rattle.hm_uses.specs.declared.name_kind.NameKind.TheVariants.{Constructor, ModuleName, TypeConstructor, Variable}
use Rattle.hm_uses_references.specs.References.{AreReferences, HasNoName}
use Rattle.hm_uses_references.specs.SetNames.{IsSame, SetName}
use Rattle.hm_uses_references.specs.declared.finding.Reference.{Reference}

-- a name in line 1 of module number i, which is the only one of source number i
abbrev pub written : ℕ → Option (List ℕ) → List ℕ → ℕ → NameKind → Bool → Sense → SetName
written i q x column kind binds sense =
    record { number = i; source = i; used = record { mention = record { name = record { qualifier = q; text = x; line = 1; column = column }; kind = kind; binds = binds }; sense = sense } }

abbrev pub x_of_A : Sense
x_of_A = an_entity (named (codes "A") (codes "x"))

-- the names of module A where { x = 1 }
abbrev pub header_A : SetName
header_A = written 0 None (codes "A") 8 ModuleName true (a_module (codes "A"))

abbrev pub declared_x : SetName
declared_x = written 0 None (codes "x") 18 Variable true x_of_A

-- and those of module B where { import A ; y x = x A.x }
abbrev pub header_B : SetName
header_B = written 1 None (codes "B") 8 ModuleName true (a_module (codes "B"))

abbrev pub import_A : SetName
import_A = written 1 None (codes "A") 25 ModuleName false (a_module (codes "A"))

abbrev pub declared_y : SetName
declared_y = written 1 None (codes "y") 29 Variable true (an_entity (named (codes "B") (codes "y")))

abbrev pub local_x : ℕ → ℕ → Bool → SetName
local_x i column binds = written i None (codes "x") column Variable binds (local_variable 1 31)

abbrev pub qualified_x : SetName
qualified_x = written 1 (Some (codes "A")) (codes "x") 37 Variable false x_of_A

abbrev pub names : List SetName
names = header_A ∷ declared_x ∷ header_B ∷ import_A ∷ declared_y ∷ local_x 1 31 true ∷ local_x 1 35 false ∷ qualified_x ∷ []

-- A.x means the x that A declares, and the other x of B doesn't. Neither does a local variable of another module
pub record VariablesRow : Type 0 where
  pub qualified : IsSame declared_x qualified_x
  pub not_local : ¬ (IsSame declared_x (local_x 1 35 false))
  pub local : IsSame (local_x 1 31 true) (local_x 1 35 false)
  pub not_elsewhere : ¬ (IsSame (local_x 0 31 true) (local_x 1 35 false))

-- a type and its constructor may have one name, but no meaning in common. Unbound names have no meaning at all
pub record OthersRow : Type 0 where
  pub not_type : ¬ (IsSame (written 0 None (codes "T") 23 TypeConstructor true x_of_A) (written 0 None (codes "T") 27 Constructor true x_of_A))
  pub not_other : ¬ (IsSame header_A header_B)
  pub not_unbound : ¬ (IsSame (written 0 None (codes "z") 23 Variable false unbound) (written 0 None (codes "z") 23 Variable false unbound))

abbrev pub at_column : ℕ → Place
at_column c = record { line = 1; column = c }

-- a name of one letter in line 1
abbrev pub letter_at : ℕ → ℕ → Bool → Reference
letter_at source column binds = record { source = source; line = 1; column = column; length = 1; binds = binds }

-- the references of A.x are in both modules. That of A.x itself is after its qualifier
pub record ReferencesRow : Type 0 where
  pub of_entity : AreReferences names 1 (at_column 37) (letter_at 0 18 true ∷ letter_at 1 39 false ∷ [])
  pub of_local : AreReferences names 1 (at_column 31) (letter_at 1 31 true ∷ letter_at 1 35 false ∷ [])
  pub not_spelling : ¬ (AreReferences names 1 (at_column 37) (letter_at 0 18 true ∷ letter_at 1 31 true ∷ letter_at 1 35 false ∷ letter_at 1 39 false ∷ []))
  pub none : HasNoName names 1 (at_column 1)
