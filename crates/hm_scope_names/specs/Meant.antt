-- The names that mean one entity in a scope (Report 5.5.2).
use Rattle.std.specs.Prelude.{◌≡◌, ◌↔◌, ⊤, List, [], ◌∷◌, Contains}
use Rattle.hm_names.specs.Bindings.{IsSeveral, Pair}
use Rattle.hm_names.specs.Scope.{Means}
use Rattle.hm_scope_tables.specs.NameSets.{FullName}
use Rattle.hm_syntax.specs.Names.{Identifier}
use Rattle.hm_syntax.specs.declared.ast.Module.{Module}
use Rattle.hm_types.specs.Interfaces.{Exports as Interface}

-- the name of a pair, as if it were written
abbrev pub written : Pair → Identifier
written p = record { qualifier = p.qualifier; text = p.text; line = 0; column = 0 }

-- in the scope of the module m with the interfaces fs, the name of the pair means the pair's entity, and no other
abbrev pub IsMeant : Module → List Interface → Pair → Type 0
IsMeant m fs p = Means m fs p.space (written p) p.entity

-- both pairs have one name
pub record HaveOneName (p q : Pair) : Type 0 where
  pub space : p.space ≡ q.space
  pub qualifier : p.qualifier ≡ q.qualifier
  pub text : p.text ≡ q.text

-- no two of the pairs have one name
abbrev pub AreApart : List Pair → Type 0
AreApart [] = ⊤
AreApart (p ∷ ps) = ((q : Pair) → Contains ps q → ¬ (HaveOneName p q)) × AreApart ps

-- The names so far. No public clause names these

abbrev pub name_of : Pair → FullName
name_of p = record { space = p.space; qualifier = p.qualifier; text = p.text }

-- of the pairs gone through, those whose names mean one entity among all pairs
pub record AreMeantIn (pairs before : List Pair) (seen : List FullName) (names : List Pair) : Type 0 where
  pub seen_are : (n : FullName) → Contains seen n ↔ ((p : Pair) × (Contains before p × (name_of p ≡ n)))
  pub sound : (p : Pair) → Contains names p → Contains before p × ¬ (IsSeveral pairs p)
  pub complete : (p : Pair) → Contains before p → ¬ (IsSeveral pairs p) → Contains names p
  pub apart : AreApart names
