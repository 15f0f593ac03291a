-- Worked examples: the places on a name with a qualifier, and where a function of two clauses is declared.
use Rattle.std.specs.Prelude.{◌≡◌, ℕ, List, [], ◌∷◌, codes, true, false, None, Some}
use Rattle.hm_lex.specs.declared.token.Place.{Place}
use Rattle.hm_syntax.specs.Names.{Identifier}
use Rattle.hm_names.specs.Entities.{named}
use Rattle.hm_uses.specs.Uses.{UseOf, an_entity}
use Rattle.hm_uses.specs.declared.name_kind.NameKind.TheVariants.{Variable}
use Rattle.hm_uses_places.specs.Declarations.{IsDeclaredAt}
use Rattle.hm_uses_places.specs.Places.{is_on}

-- M.xs at column 5 of line 2
abbrev pub qualified : Identifier
qualified = record { qualifier = Some (codes "M"); text = codes "xs"; line = 2; column = 5 }

abbrev pub at_column : ℕ → Place
at_column c = record { line = 2; column = c }

-- it has four bytes: columns 5 to 8 of its line
pub record QualifiedRow : Type 0 where
  pub first : is_on (at_column 5) qualified ≡ true
  pub last : is_on (at_column 8) qualified ≡ true
  pub not_before : is_on (at_column 4) qualified ≡ false
  pub not_behind : is_on (at_column 9) qualified ≡ false
  pub not_below : is_on (record { line = 3; column = 5 }) qualified ≡ false

-- module A where { f 0 = 1 ; f x = 2 }: both clauses bind f
abbrev pub clause_at : ℕ → UseOf
clause_at c = record { mention = record { name = record { qualifier = None; text = codes "f"; line = 1; column = c }; kind = Variable; binds = true }; sense = an_entity (named (codes "A") (codes "f")) }

abbrev pub clauses : List UseOf
clauses = clause_at 18 ∷ clause_at 28 ∷ []

-- f is declared at its first clause, and not at its second one
pub record DeclaredRow : Type 0 where
  pub first : IsDeclaredAt Variable (named (codes "A") (codes "f")) clauses (record { line = 1; column = 18 })
  pub not_second : ¬ (IsDeclaredAt Variable (named (codes "A") (codes "f")) clauses (record { line = 1; column = 28 }))
