-- Worked examples: names that only the Report's Prelude has, the first of several names, numbers of arguments and patterns, names of imports and
-- signatures, candidates of an ambiguous name, and near local variables.
use Rattle.std.specs.Prelude.{◌≡◌, ℕ, true, false, List, [], ◌∷◌, None, Some, Contains, codes}
use Rattle.hm_lex.specs.declared.token.Place.{Place}
use Rattle.hm_syntax.specs.Names.{Identifier}
use Rattle.hm_syntax.specs.Trees.{Patterns, no_patterns, more_patterns, variable_pattern, constructor_pattern, tuple_pattern, variable_expression, Declarations, no_declarations, more_declarations, clause, pattern_binding, signature, unit_type, RightSide, right_side, no_bodies}
use Rattle.hm_syntax.specs.declared.ast.Export.TheVariants as export
use Rattle.hm_syntax.specs.declared.ast.Import.{Import}
use Rattle.hm_syntax.specs.declared.ast.ImportItem.{ImportItem}
use Rattle.hm_syntax.specs.declared.ast.ImportItem.TheVariants as item
use Rattle.hm_syntax.specs.declared.ast.ImportList.TheVariants as list
use Rattle.hm_syntax.specs.declared.ast.Module.{Module}
use Rattle.hm_syntax.specs.declared.ast.SubItems.TheVariants as subs
use Rattle.hm_types.specs.Interfaces.{Exports as Interface}
use Rattle.hm_types.specs.declared.Entity.{Entity}
use Rattle.hm_types.specs.declared.entries.ValueEntry.{ValueEntry}
use Rattle.hm_names.specs.Bindings.{Pair}
use Rattle.hm_names.specs.Faults.Phases.{fault}
use Rattle.hm_names.specs.Entities.{Exports}
use Rattle.hm_names.specs.Scope.{Means, prelude_name}
use Rattle.hm_names.specs.Walk.{at_expression, at_pattern}
use Rattle.hm_names.specs.declared.faults.Fault.{Fault}
use Rattle.hm_names.specs.declared.faults.Kind.TheVariants.{Ambiguous, Arity, ClauseLength, Duplicate, NoBinding, NotExported, Unbound}
use Rattle.hm_names.specs.declared.namespace.Namespace.TheVariants.{Types, Constructors, Values}
use Rattle.hm_messages_details.specs.Candidates.{Candidate, IsCandidate, IsImportLine}
use Rattle.hm_messages_details.specs.Counts.{HasArguments, HasLengths}
use Rattle.hm_messages_details.specs.Details.{IsEntityFor, IsKnown, IsNearPair, of_report}
use Rattle.hm_messages_details.specs.Firsts.{IsFirstAt}
use Rattle.hm_messages_details.specs.LeftOut.{IsLeftOutAs}
use Rattle.hm_messages_details.specs.Listed.{IsListedAs}
use Rattle.hm_messages_details.specs.NearBindings.{IsNearBinding}
use Rattle.hm_messages_details.specs.NearExports.{IsNearIn}
use Rattle.hm_messages_details.specs.NearLocals.{IsNearLocal}
use Rattle.hm_messages_details.specs.Nearness.{AreNear, IsSmallForm}
use Rattle.hm_messages_details.specs.PatternBindings.{IsPatternBound}
use Rattle.hm_messages_details.specs.Roles.{IsRoleAt, IsRoleIn}
use Rattle.hm_messages_details.specs.declared.role.Role.TheVariants.{Constructor, TypeConstructor, TypeVariable, Variable}

abbrev pub name_on : List ℕ → ℕ → Identifier
name_on x line = record { qualifier = None; text = x; line = line; column = 1 }

abbrev pub start_of : ℕ → Place
start_of line = record { line = line; column = 1 }

-- f, g, f and f, on four lines
abbrev pub four_names : List Identifier
four_names = name_on (codes "f") 1 ∷ name_on (codes "g") 2 ∷ name_on (codes "f") 3 ∷ name_on (codes "f") 4 ∷ []

-- for the last f, the first one is on line 1, and not on line 3. The f on line 1 has no other first
pub record FirstRow : Type 0 where
  pub first : IsFirstAt four_names (fault Duplicate (name_on (codes "f") 4)) (start_of 1)
  pub second : ¬ (IsFirstAt four_names (fault Duplicate (name_on (codes "f") 4)) (start_of 3))
  pub itself : (p : Place) → ¬ (IsFirstAt four_names (fault Duplicate (name_on (codes "f") 1)) p)

abbrev pub one_pattern : Patterns
one_pattern = more_patterns (variable_pattern (name_on (codes "x") 1)) no_patterns

-- this Prelude leaves out the variable `putStrLn` of the Report's Prelude, and has `map`. It leaves out the type `Double`, and the Report has no
-- variable of this name. A type variable `log` isn't the variable of the Report. An ambiguous name isn't reported as left out
pub record LeftOutRow : Type 0 where
  pub missing : IsLeftOutAs Variable (codes "putStrLn")
  pub there : ¬ (IsLeftOutAs Variable (codes "map"))
  pub a_type : IsLeftOutAs TypeConstructor (codes "Double")
  pub no_variable : ¬ (IsLeftOutAs Variable (codes "Double"))
  pub type_variable : ¬ (IsLeftOutAs TypeVariable (codes "log"))
  pub ambiguous : (m : Module) (fs : List Interface) (f : Fault) → f.kind ≡ Ambiguous → ¬ (IsKnown m fs f of_report)

-- `(:) x` has one argument, and takes two
pub record ArgumentsRow : Type 0 where
  pub counted : (m : Module) (fs : List Interface) → HasArguments m fs (fault Arity (name_on (codes ":") 1)) 1 2 (at_pattern (constructor_pattern (name_on (codes ":") 1) one_pattern))
  pub other : (m : Module) (fs : List Interface) (takes : ℕ) → ¬ (HasArguments m fs (fault Arity (name_on (codes ":") 1)) 2 takes (at_pattern (constructor_pattern (name_on (codes ":") 1) one_pattern)))

abbrev pub no_right_side : RightSide
no_right_side = right_side no_bodies no_declarations

-- f x y, f x and f x, on three lines
abbrev pub three_clauses : Declarations
three_clauses =
    more_declarations (clause (name_on (codes "f") 1) (more_patterns (variable_pattern (name_on (codes "y") 1)) one_pattern) no_right_side)
    (more_declarations (clause (name_on (codes "f") 2) one_pattern no_right_side) (more_declarations (clause (name_on (codes "f") 3) one_pattern no_right_side) no_declarations))

-- the last one has one pattern, and the first two; the one before it isn't the first
pub record LengthsRow : Type 0 where
  pub counted : HasLengths (fault ClauseLength (name_on (codes "f") 3)) 1 2 three_clauses
  pub other : (here : ℕ) → ¬ (HasLengths (fault ClauseLength (name_on (codes "f") 3)) here 1 three_clauses)

abbrev pub constructor_item : ImportItem
constructor_item = item.Con (name_on (codes "T") 1) (subs.Some (name_on (codes "D") 2 ∷ []))

-- `T(D)`: D is listed as a constructor of T, and not alone
pub record ListedRow : Type 0 where
  pub after : IsListedAs (fault NotExported (name_on (codes "D") 2)) constructor_item (Some (codes "T"))
  pub alone : ¬ (IsListedAs (fault NotExported (name_on (codes "D") 2)) constructor_item None)

-- a variable that a module exports can be listed alone, and it may be meant if it is near. Without a type no constructor can be listed
pub record NearExportRow : Type 0 where
  pub a_variable : (i : Interface) (r : ValueEntry) → Contains i.values r → r.name ≡ codes "lookup" → AreNear (codes "lokup") (codes "lookup") → IsNearIn i (codes "lokup") None (codes "lookup")
  pub no_type : (i : Interface) (y : List ℕ) → i.types ≡ [] → ¬ (IsNearIn i (codes "Nod") (Some (codes "Tree")) y)

abbrev pub import_on : List ℕ → List ℕ → ℕ → Import
import_on x k line = record { qualified = false; name = name_on x line; alias = Some (name_on k line); list = list.Every }

abbrev pub two_imports : List Import
two_imports = import_on (codes "A") (codes "L") 1 ∷ import_on (codes "B") (codes "M") 2 ∷ []

-- A exports the entity under its name, as a value
abbrev pub IsOfA : List Interface → Entity → Interface → Type 0
IsOfA fs e f = Contains fs f × (f.name ≡ codes "A") × Exports f e.name e Values

-- `import A as L` on line 1 and `import B as M` on line 2: what A exports is from line 1 under the qualifier `L`, and not from line 2. What A doesn't export
-- isn't from line 1
pub record ImportLineRow : Type 0 where
  pub first : (m : Module) (fs : List Interface) (e : Entity) (f : Interface) → m.header.imports ≡ two_imports → IsOfA fs e f → IsImportLine m fs Values e (codes "L") 1
  pub second : (m : Module) (fs : List Interface) (e : Entity) → m.header.imports ≡ two_imports → ¬ (IsImportLine m fs Values e (codes "L") 2)
  pub not_brought : (m : Module) (fs : List Interface) (e : Entity) → m.header.imports ≡ two_imports → ((f : Interface) → ¬ (IsOfA fs e f)) → ¬ (IsImportLine m fs Values e (codes "L") 1)

-- `fooBar :: ()` on line 1, and `foobar` with a clause on line 2
abbrev pub one_signature : Declarations
one_signature =
    more_declarations (signature (name_on (codes "fooBar") 1 ∷ []) unit_type)
    (more_declarations (clause (name_on (codes "foobar") 2) one_pattern no_right_side) no_declarations)

-- the clause may be meant for the signature if its name is near, and no other name is bound there
pub record NearBindingRow : Type 0 where
  pub bound : AreNear (codes "fooBar") (codes "foobar") → IsNearBinding one_signature (fault NoBinding (name_on (codes "fooBar") 1)) (codes "foobar")
  pub other : ¬ (IsNearBinding one_signature (fault NoBinding (name_on (codes "fooBar") 1)) (codes "fooBaz"))

abbrev pub type_called : List ℕ → Entity → Pair
type_called x e = record { space = Types; qualifier = None; text = x; entity = e }

-- a type `Int` has this name among types, and not among constructors
pub record SpaceRow : Type 0 where
  pub there : (e : Entity) → IsEntityFor (codes "Int") Types (type_called (codes "Int") e)
  pub other : (e : Entity) → ¬ (IsEntityFor (codes "Int") Constructors (type_called (codes "Int") e))

abbrev pub value_called : List ℕ → Entity → Pair
value_called x e = record { space = Values; qualifier = None; text = x; entity = e }

abbrev pub x_unbound : Fault
x_unbound = fault Unbound (name_on (codes "x") 1)

-- the x of an expression stands for a variable, and not for a type variable; the x on another line is another one. `T` in an export list stands for a type
pub record RoleRow : Type 0 where
  pub used : IsRoleAt x_unbound Variable (at_expression (variable_expression (name_on (codes "x") 1)))
  pub no_type_variable : ¬ (IsRoleAt x_unbound TypeVariable (at_expression (variable_expression (name_on (codes "x") 1))))
  pub other_line : ¬ (IsRoleAt x_unbound Variable (at_expression (variable_expression (name_on (codes "x") 2))))
  pub exported : IsRoleIn (fault Unbound (name_on (codes "T") 1)) TypeConstructor (export.Con (name_on (codes "T") 1) subs.None)
  pub no_constructor : ¬ (IsRoleIn (fault Unbound (name_on (codes "T") 1)) Constructor (export.Con (name_on (codes "T") 1) subs.None))

-- for a type variable `int` a type `Int` may be meant, and no value `init`. For a variable `int` a value `init` may be, if it is near
pub record NearPairRow : Type 0 where
  pub a_type : (e : Entity) → IsNearPair TypeVariable (codes "int") (type_called (codes "Int") e)
  pub no_value : (e : Entity) → ¬ (IsNearPair TypeVariable (codes "int") (value_called (codes "init") e))
  pub a_value : (e : Entity) → AreNear (codes "int") (codes "init") → IsNearPair Variable (codes "int") (value_called (codes "init") e)
  pub no_type : (e : Entity) → ¬ (IsNearPair Variable (codes "int") (type_called (codes "Int") e))

-- `true` is the small form of `True`, and `TRUE` isn't
pub record SmallFormRow : Type 0 where
  pub small : IsSmallForm (codes "true") (codes "True")
  pub capitals : ¬ (IsSmallForm (codes "TRUE") (codes "True"))

-- `p :: ()` on line 1, and a pattern `(p)` on line 2, written as a list of one component
abbrev pub signed_pattern : Declarations
signed_pattern =
    more_declarations (signature (name_on (codes "p") 1 ∷ []) unit_type)
    (more_declarations (pattern_binding 2 1 (tuple_pattern (more_patterns (variable_pattern (name_on (codes "p") 2)) no_patterns)) no_right_side) no_declarations)

-- the pattern binds the variable of the signature. A clause doesn't count as a pattern
pub record PatternRow : Type 0 where
  pub bound : IsPatternBound signed_pattern (fault NoBinding (name_on (codes "p") 1))
  pub other : ¬ (IsPatternBound one_signature (fault NoBinding (name_on (codes "fooBar") 1)))

abbrev pub preludes_filter : Entity
preludes_filter = record { «module» = codes "Prelude"; name = codes "filter" }

abbrev pub hidden_filter : Candidate
hidden_filter = record { entity = preludes_filter; qualifier = None; line = None; implicit = true }

abbrev pub filter_in : List ℕ → ℕ → Candidate
filter_in q line = record { entity = preludes_filter; qualifier = Some q; line = Some line; implicit = false }

abbrev pub one_import : List Import
one_import = import_on (codes "A") (codes "L") 1 ∷ []

abbrev pub of_prelude : List Import
of_prelude = import_on prelude_name (codes "P") 1 ∷ []

-- Prelude's `filter` can be hidden by an import of Prelude if the only import is `import A as L` on line 1 and A doesn't export this `filter`. It can't if A
-- does, nor if there is `import Prelude as P` already. With that import `P.filter` is from line 1, if it means this `filter` alone, and not from line 2
pub record CandidateRow : Type 0 where
  pub implicit : (m : Module) (fs : List Interface) → m.header.imports ≡ one_import → ((f : Interface) → ¬ (IsOfA fs preludes_filter f)) → IsCandidate m fs Values preludes_filter hidden_filter
  pub brought : (m : Module) (fs : List Interface) (f : Interface) → m.header.imports ≡ one_import → IsOfA fs preludes_filter f → ¬ (IsCandidate m fs Values preludes_filter hidden_filter)
  pub explicit : (m : Module) (fs : List Interface) → m.header.imports ≡ of_prelude → ¬ (IsCandidate m fs Values preludes_filter hidden_filter)
  pub line : (m : Module) (fs : List Interface) (f : Interface) → m.header.imports ≡ of_prelude → Contains fs f → f.name ≡ prelude_name → Exports f preludes_filter.name preludes_filter Values
      → ((n : Identifier) → n.qualifier ≡ Some (codes "P") → n.text ≡ codes "filter" → Means m fs Values n preludes_filter) → IsCandidate m fs Values preludes_filter (filter_in (codes "P") 1)
  pub other_line : (m : Module) (fs : List Interface) → m.header.imports ≡ of_prelude → ¬ (IsCandidate m fs Values preludes_filter (filter_in (codes "P") 2))

abbrev pub list_use : Identifier
list_use = name_on (codes "lsit") 1

-- a use of `lsit` where `list` is local may be meant for it if the name is near, and not where only `word` is
pub record NearLocalRow : Type 0 where
  pub inside : AreNear (codes "lsit") (codes "list") → IsNearLocal (fault Unbound list_use) (codes "list") (codes "list" ∷ []) (at_expression (variable_expression list_use))
  pub outside : ¬ (IsNearLocal (fault Unbound list_use) (codes "list") (codes "word" ∷ []) (at_expression (variable_expression list_use)))
