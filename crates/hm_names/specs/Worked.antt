-- Worked examples of modules, as trees.
use Rattle.std.specs.Prelude.{◌≡◌, ℕ, List, [], ◌∷◌, Bool, true, false, Option, None, Some, codes}
use Rattle.hm_types.specs.declared.Entity.{Entity}
use Rattle.hm_types.specs.declared.Head.TheVariants as head
use Rattle.hm_types.specs.Interfaces.{Exports as Interface}
use Rattle.hm_types.specs.StandardPrelude.{prelude_interface}
use Rattle.hm_types.specs.Types.{App, done}
use Rattle.hm_typing.specs.Names.{global, binding}
use Rattle.hm_typing.specs.Syntax.{names}
use Rattle.hm_syntax.specs.Names.{Identifier, integer}
use Rattle.hm_syntax.specs.Trees.{TypeTree, unit_type, variable_type, constructor_type, tuple_type, no_types, more_types, data_constructor, no_constructors, more_constructors, Pattern, variable_pattern, tuple_pattern, no_patterns, more_patterns, Expression, variable_expression, constructor_expression, literal_expression, lambda, RightSide, right_side, no_bodies, plain_body, Declaration, data_declaration, synonym_declaration, signature, clause, pattern_binding, no_declarations}
use Rattle.hm_syntax.specs.declared.ast.Module.{Module}
use Rattle.hm_syntax.specs.declared.ast.Import.{Import}
use Rattle.hm_syntax.specs.declared.ast.Export.{Export}
use Rattle.hm_syntax.specs.declared.ast.Export.TheVariants as export
use Rattle.hm_syntax.specs.declared.ast.ImportItem.TheVariants as item
use Rattle.hm_syntax.specs.declared.ast.ImportList.{ImportList}
use Rattle.hm_syntax.specs.declared.ast.ImportList.TheVariants as list
use Rattle.hm_names.specs.declared.faults.Kind.{Kind}
use Rattle.hm_names.specs.declared.faults.Kind.TheVariants.{NotExported, Duplicate, NoBinding, Unbound, Ambiguous, ExportClash, NotImported, NonLinear, Arity, ClauseLength, Recursive}
use Rattle.hm_names.specs.declared.namespace.Namespace.TheVariants.{Values}
use Rattle.hm_names.specs.Entities.{named}
use Rattle.hm_names.specs.Exports.{IsExported}
use Rattle.hm_names.specs.Expansion.{as_entity, expanded}
use Rattle.hm_names.specs.Scope.{Means}
use Rattle.hm_names.specs.Resolved.{Resolver, IsResolver, expression_with}
use Rattle.hm_names.specs.Types.{synonym_of}
use Rattle.hm_names.specs.ModuleCores.{ModuleCore}
use Rattle.hm_names.specs.declared.cores.Exported.{Exported}
use Rattle.hm_names.specs.Cores.{IsCore, kept, syntax_of}
use Rattle.hm_names.specs.Faults.Phases.{Phase, Importing, Declaring, Exporting, Naming, Counting, HasFault, fault}

-- a bare name on line 1
abbrev pub at : ℕ → List ℕ → Identifier
at column x = record { qualifier = None; text = x; line = 1; column = column }

abbrev pub one : RightSide
one = right_side (plain_body (literal_expression (integer (codes "1"))) no_bodies) no_declarations

abbrev pub is : Expression → RightSide
is e = right_side (plain_body e no_bodies) no_declarations

abbrev pub imports : Bool → List ℕ → ImportList → Import
imports q m l = record { qualified = q; name = at 0 m; alias = None; list = l }

abbrev pub module_of : List ℕ → Option (List Export) → List Import → List Declaration → Module
module_of m es is ds = record { header = record { name = at 0 m; exports = es; imports = is }; decls = ds }

-- module A where { .. }
abbrev pub a_module : List Declaration → Module
a_module ds = module_of (codes "A") None [] ds

abbrev pub prelude_alone : List Interface
prelude_alone = prelude_interface ∷ []

-- the interface of m, with a variable x
abbrev pub with_x : List ℕ → Interface
with_x m = record {
  name = m;
  types = [];
  synonyms = [];
  constructors = [];
  values = record { name = codes "x"; entity = named m (codes "x"); scheme = record { vars = 0; body = App head.Unit done } } ∷ [];
}

abbrev pub x : List ℕ
x = codes "x"

-- the module has a fault of the kind, at the name, in the phase
abbrev pub Fails : Module → List Interface → Phase → Kind → Identifier → Type 0
Fails m fs p k n = HasFault m fs p (fault k n)

-- module A where { import B (x, zz) }
abbrev pub lists_zz : Module
lists_zz = module_of (codes "A") None (imports false (codes "B") (list.Only (item.Var (at 29 x) ∷ item.Var (at 32 (codes "zz")) ∷ [])) ∷ []) []

abbrev pub NotExportedRow : Type 0
NotExportedRow = Fails lists_zz (prelude_interface ∷ with_x (codes "B") ∷ []) Importing NotExported (at 32 (codes "zz"))

-- module A where { (x, y) = 1 ; x = 1 }
abbrev pub pair_of : Identifier → Identifier → Pattern
pair_of v w = tuple_pattern (more_patterns (variable_pattern v) (more_patterns (variable_pattern w) no_patterns))

abbrev pub bound_twice : Module
bound_twice = a_module (pattern_binding 1 18 (pair_of (at 19 x) (at 22 (codes "y"))) one ∷ clause (at 31 x) no_patterns one ∷ [])

abbrev pub DuplicateRow : Type 0
DuplicateRow = Fails bound_twice prelude_alone Declaring Duplicate (at 31 x)

-- module A where { (x, x) = 1 }: the second x is not linear, but no duplicate
abbrev pub twice_in_one : Module
twice_in_one = a_module (pattern_binding 1 18 (pair_of (at 19 x) (at 22 x)) one ∷ [])

abbrev pub NonLinearRow : Type 0
NonLinearRow = Fails twice_in_one prelude_alone Naming NonLinear (at 22 x)

abbrev pub NoDuplicateRow : Type 0
NoDuplicateRow = (n : Identifier) → ¬ (Fails twice_in_one prelude_alone Declaring Duplicate n)

-- module A where { x :: (); (x, y) = 1 }: a signature requires clauses
abbrev pub signs_pattern : Module
signs_pattern = a_module (signature (at 18 x ∷ []) Rattle.hm_syntax.specs.Trees.unit_type ∷ pattern_binding 1 27 (pair_of (at 28 x) (at 31 (codes "y"))) one ∷ [])

abbrev pub NoBindingRow : Type 0
NoBindingRow = Fails signs_pattern prelude_alone Declaring NoBinding (at 18 x)

-- module A where { data T a = C b }
abbrev pub no_parameter : Module
no_parameter = a_module (data_declaration (at 23 (codes "T")) (at 25 (codes "a") ∷ []) (more_constructors (data_constructor (at 29 (codes "C")) (more_types (variable_type (at 31 (codes "b"))) no_types)) no_constructors) ∷ [])

abbrev pub UnboundRow : Type 0
UnboundRow = Fails no_parameter prelude_alone Naming Unbound (at 31 (codes "b"))

-- module F where { import A ; import D ; y = x }, where A and D have an x each
abbrev pub two_x : Module
two_x = module_of (codes "F") None (imports false (codes "A") list.Every ∷ imports false (codes "D") list.Every ∷ []) (clause (at 40 (codes "y")) no_patterns (is (variable_expression (at 44 x))) ∷ [])

abbrev pub AmbiguousRow : Type 0
AmbiguousRow = Fails two_x (prelude_interface ∷ with_x (codes "A") ∷ with_x (codes "D") ∷ []) Naming Ambiguous (at 44 x)

-- module A (x, B.x) where { import qualified B ; x = 1 }
abbrev pub clashing : Module
clashing = module_of (codes "A") (Some (export.Var (at 11 x) ∷ export.Var (record { qualifier = Some (codes "B"); text = x; line = 1; column = 14 }) ∷ []))
    (imports true (codes "B") list.Every ∷ []) (clause (at 48 x) no_patterns one ∷ [])

abbrev pub ClashRow : Type 0
ClashRow = Fails clashing (prelude_interface ∷ with_x (codes "B") ∷ []) Exporting ExportClash (at 14 x)

-- module A (module B) where { import qualified B ; y = 1 }: a name that is in scope only as B.x isn't exported
abbrev pub exports_B : Module
exports_B = module_of (codes "A") (Some (export.Whole (at 18 (codes "B")) ∷ [])) (imports true (codes "B") list.Every ∷ []) (clause (at 50 (codes "y")) no_patterns one ∷ [])

abbrev pub WholeRow : Type 0
WholeRow = (e : Entity) → ¬ (IsExported exports_B (prelude_interface ∷ with_x (codes "B") ∷ []) Values x e)

-- module A where { import B hiding (x) ; y = x }
abbrev pub hides_x : Module
hides_x = module_of (codes "A") None (imports false (codes "B") (list.Hiding (item.Var (at 35 x) ∷ [])) ∷ []) (clause (at 40 (codes "y")) no_patterns (is (variable_expression (at 44 x))) ∷ [])

abbrev pub HiddenRow : Type 0
HiddenRow = Fails hides_x (prelude_interface ∷ with_x (codes "B") ∷ []) Naming Unbound (at 44 x)

-- module A (module Z) where { }
abbrev pub exports_Z : Module
exports_Z = module_of (codes "A") (Some (export.Whole (at 18 (codes "Z")) ∷ [])) [] []

abbrev pub NotImportedRow : Type 0
NotImportedRow = Fails exports_Z prelude_alone Exporting NotImported (at 18 (codes "Z"))

-- module A where { f x = 1 ; f x y = 1 }
abbrev pub other_length : Module
other_length = a_module (clause (at 18 (codes "f")) (more_patterns (variable_pattern (at 20 x)) no_patterns) one ∷ clause (at 28 (codes "f")) (more_patterns (variable_pattern (at 30 x)) (more_patterns (variable_pattern (at 32 (codes "y"))) no_patterns)) one ∷ [])

abbrev pub ClauseLengthRow : Type 0
ClauseLengthRow = Fails other_length prelude_alone Counting ClauseLength (at 28 (codes "f"))

-- module A where { type S = T ; type T = S }
abbrev pub synonym : ℕ → List ℕ → ℕ → List ℕ → Declaration
synonym c s d t = synonym_declaration (at c s) [] (constructor_type (at d t) no_types)

abbrev pub cyclic : Module
cyclic = a_module (synonym 23 (codes "S") 27 (codes "T") ∷ synonym 36 (codes "T") 40 (codes "S") ∷ [])

abbrev pub RecursiveRow : Type 0
RecursiveRow = Fails cyclic prelude_alone Counting Recursive (at 23 (codes "S")) × Fails cyclic prelude_alone Counting Recursive (at 36 (codes "T"))

-- module A where { data T = C ; f :: T T }: T has no arguments
abbrev pub applied_T : Module
applied_T = a_module (data_declaration (at 23 (codes "T")) [] (more_constructors (data_constructor (at 27 (codes "C")) no_types) no_constructors) ∷ signature (at 31 (codes "f") ∷ []) (constructor_type (at 36 (codes "T")) (more_types (constructor_type (at 38 (codes "T")) no_types) no_types)) ∷ [])

abbrev pub ArityRow : Type 0
ArityRow = Fails applied_T prelude_alone Counting Arity (at 36 (codes "T"))

-- Expansion: with type P b a = (a, b), the type P t u is (u, t)
abbrev pub swap : TypeTree
swap = tuple_type (more_types (variable_type (at 31 (codes "a"))) (more_types (variable_type (at 34 (codes "b"))) no_types))

abbrev pub ExpansionRow : Type 0
ExpansionRow = (n : Identifier) (t u : TypeTree) → expanded (Some (synonym_of (at 24 (codes "b") ∷ at 26 (codes "a") ∷ []) swap)) n (more_types t (more_types u no_types)) ≡ tuple_type (more_types u (more_types t no_types))

-- If T is exported, a core has the right side of T, and none of a synonym S beside it
abbrev pub exports_T : List Exported
exports_T = record { name = codes "T"; entity = named (codes "A") (codes "T") } ∷ []

abbrev pub synonym_of_A : List ℕ → TypeTree → Declaration
synonym_of_A x t = synonym_declaration (as_entity (at 23 x) (named (codes "A") x)) [] t

abbrev pub KeptRow : Type 0
KeptRow = (t : TypeTree) → kept exports_T (synonym_of_A (codes "T") t) ≡ synonym_of_A (codes "T") t

abbrev pub LeftOutRow : Type 0
LeftOutRow = (t : TypeTree) → kept exports_T (synonym_of_A (codes "S") t) ≡ synonym_of_A (codes "S") unit_type

-- A core of module A where { (x, y) = 1 ; z = 1 } binds x, y, the pattern binding itself, and z
abbrev pub with_pattern : Module
with_pattern = a_module (pattern_binding 1 18 (pair_of (at 19 x) (at 22 (codes "y"))) one ∷ clause (at 31 (codes "z")) no_patterns one ∷ [])

abbrev pub PatternRow : Type 0
PatternRow = (c : ModuleCore) → IsCore with_pattern prelude_alone c → names (syntax_of c) ≡ global (named (codes "A") x) ∷ global (named (codes "A") (codes "y")) ∷ binding (codes "A") 1 ∷ global (named (codes "A") (codes "z")) ∷ []

-- local binders: \B.x -> x, which no source spells, binds the bare x, and not the meaning of B.x
abbrev pub x_of_B : Identifier
x_of_B = record { qualifier = Some (codes "B"); text = x; line = 1; column = 19 }

abbrev pub lambda_of : Identifier → Identifier → Expression
lambda_of n v = lambda (more_patterns (variable_pattern n) no_patterns) (variable_expression v)

abbrev pub BinderRow : Type 0
BinderRow = (m : Module) (fs : List Interface) (r : Resolver) → IsResolver m fs r → expression_with r [] (lambda_of x_of_B (at 26 x)) ≡ lambda_of (at 19 x) (at 26 x)

abbrev pub NoCaptureRow : Type 0
NoCaptureRow = (m : Module) (fs : List Interface) (r : Resolver) (e : Entity) → IsResolver m fs r → Means m fs Values x_of_B e →
    expression_with r [] (lambda_of x_of_B x_of_B) ≡ lambda_of (at 19 x) (as_entity x_of_B e)
