-- What a name stands for at its place (Report, sections 1.4, 3, 4 and 5.2).
use Rattle.std.specs.Prelude.{◌≡◌, ◌⊎◌, List, Some, Contains}
use Rattle.hm_syntax.specs.Names.{Identifier}
use Rattle.hm_syntax.specs.Trees.{TypeTrees, variable_type, constructor_type, Patterns, constructor_pattern, variable_expression, constructor_expression}
use Rattle.hm_syntax.specs.declared.ast.Export.{Export}
use Rattle.hm_syntax.specs.declared.ast.Export.TheVariants as export
use Rattle.hm_syntax.specs.declared.ast.Module.{Module}
use Rattle.hm_syntax.specs.declared.ast.SubItems.{SubItems}
use Rattle.hm_names.specs.Walk.{Node, Somewhere, at_expression, at_pattern, at_type}
use Rattle.hm_names.specs.declared.faults.Fault.{Fault}
use Rattle.hm_names.specs.declared.namespace.Namespace.{Namespace}
use Rattle.hm_names.specs.declared.namespace.Namespace.TheVariants.{Types, Constructors, Values}
use Rattle.hm_messages_details.specs.Firsts.{IsAt}
use Rattle.hm_messages_details.specs.declared.role.Role.{Role}
use Rattle.hm_messages_details.specs.declared.role.Role.TheVariants.{Variable, ExportedVariable, Constructor, TypeConstructor, TypeVariable}

-- the fault is at a variable or a constructor of an expression, a constructor of a pattern, a type constructor, or a type variable
pub data IsRoleAt (f : Fault) : Role → Node → Type 0 where
  a_variable : {n : Identifier} → IsAt f n → IsRoleAt f Variable (at_expression (variable_expression n))
  a_constructor : {n : Identifier} → IsAt f n → IsRoleAt f Constructor (at_expression (constructor_expression n))
  a_pattern : {n : Identifier} {ps : Patterns} → IsAt f n → IsRoleAt f Constructor (at_pattern (constructor_pattern n ps))
  a_type : {n : Identifier} {ts : TypeTrees} → IsAt f n → IsRoleAt f TypeConstructor (at_type (constructor_type n ts))
  a_type_variable : {n : Identifier} → IsAt f n → IsRoleAt f TypeVariable (at_type (variable_type n))

-- the fault is at the variable or the type of an export. The constructors in the brackets of a type have no role: only those of this type can be written there
pub data IsRoleIn (f : Fault) : Role → Export → Type 0 where
  an_exported_variable : {n : Identifier} → IsAt f n → IsRoleIn f ExportedVariable (export.Var n)
  an_exported_type : {n : Identifier} {s : SubItems} → IsAt f n → IsRoleIn f TypeConstructor (export.Con n s)

-- the fault is so at an item of the export list
pub record IsExportedAs (m : Module) (f : Fault) (r : Role) : Type 0 where
  pub items : List Export
  pub listed : m.header.exports ≡ Some items
  pub item : Export
  pub among : Contains items item
  pub is_role : IsRoleIn f r item

-- the name of the fault stands for this at its place
abbrev pub HasRole : Module → Fault → Role → Type 0
HasRole m f r = Somewhere m (λ xs k. IsRoleAt f r k) ⊎ IsExportedAs m f r

-- a name of this namespace can be written there
abbrev pub CanStand : Role → Namespace → Type 0
CanStand Variable s = s ≡ Values
CanStand ExportedVariable s = s ≡ Values
CanStand Constructor s = s ≡ Constructors
CanStand TypeConstructor s = s ≡ Types
CanStand TypeVariable s = ⊥

-- a name of this namespace can be written there if it begins with a capital letter in place of a small one
abbrev pub CanStandInCapitals : Role → Namespace → Type 0
CanStandInCapitals Variable s = s ≡ Constructors
CanStandInCapitals ExportedVariable s = ⊥
CanStandInCapitals Constructor s = ⊥
CanStandInCapitals TypeConstructor s = ⊥
CanStandInCapitals TypeVariable s = s ≡ Types
