-- The declared schemes of constructors, as the program stores them.
use Rattle.std.specs.Prelude.{ℕ, List, refl}
use Rattle.std.specs.Coded.{Coded, code_by, coded×, coded_list, coded_ℕ}
use Rattle.hm_types.specs.Schemes.{coded_scheme}
use Rattle.hm_types.specs.Interfaces.{coded_entity}
use Rattle.hm_syntax.specs.Names.{Identifier}
use Rattle.hm_syntax.specs.Trees.{Declaration, data_declaration, newtype_declaration, synonym_declaration, signature, clause, pattern_binding}
use Rattle.hm_names.specs.Faults.Lists.{Repeats}
use Rattle.hm_names.specs.Cores.{ConstructorScheme, scheme_or}
use Rattle.hm_names.specs.Described.{first_of}
use Rattle.hm_names.specs.Special.{special_of}
use Rattle.hm_names.specs.Syntax.{Known}
use Rattle.hm_names.specs.Types.{entity_of}

-- a module's name, and constructors with their schemes
pub record Table : Type 0 where
  pub home : List ℕ
  pub schemes : List ConstructorScheme

abbrev pub coded_constructor : Coded ConstructorScheme
coded_constructor = code_by _ (coded× coded_entity coded_scheme) (λ s. (s.entity, s.scheme)) (λ p. record { entity = p.0; scheme = p.1 }) (λ _. refl)

abbrev pub coded_table : Coded Table
coded_table = code_by _ (coded× (coded_list coded_ℕ) (coded_list coded_constructor)) (λ s. (s.home, s.schemes)) (λ p. record { home = p.0; schemes = p.1 }) (λ _. refl)

-- the constructors of a table. If one has several schemes, the first counts
abbrev pub known_of : Table → Known
known_of t = record { home = t.home; scheme = λ n. scheme_or (special_of n) (first_of (λ d. d.entity) (entity_of n) t.schemes) }

-- a declared type has distinct parameters
abbrev pub HasDistinctParameters : Declaration → Type 0
HasDistinctParameters (data_declaration n ps cs) = (k : Identifier) → ¬ (Repeats ps k)
HasDistinctParameters (newtype_declaration n ps c) = (k : Identifier) → ¬ (Repeats ps k)
HasDistinctParameters (synonym_declaration n ps t) = Unit {0}
HasDistinctParameters (signature ns t) = Unit {0}
HasDistinctParameters (clause n ps r) = Unit {0}
HasDistinctParameters (pattern_binding l c p r) = Unit {0}
