-- What a name of an export list stands for.
use Rattle.std.proofs.Common.{◌≡◌, IfSome, List, None, Option, Some, subst, sym}
use Rattle.std.specs.Prelude.{Contains}
use Rattle.hm_syntax.specs.Names.{Identifier}
use Rattle.hm_syntax.specs.declared.ast.Export.{Export}
use Rattle.hm_syntax.specs.declared.ast.Export.TheVariants as export
use Rattle.hm_syntax.specs.declared.ast.Module.{Module}
use Rattle.hm_syntax.specs.declared.ast.SubItems.{SubItems}
use Rattle.hm_names.specs.declared.faults.Fault.{Fault}
use Rattle.hm_messages_details.specs.Firsts.{IsAt}
use Rattle.hm_messages_details.specs.Roles.{IsExportedAs, IsRoleIn, an_exported_type, an_exported_variable}
use Rattle.hm_messages_details.specs.declared.role.Role.{Role}
use Rattle.hm_messages_details.specs.declared.role.Role.TheVariants.{ExportedVariable, TypeConstructor}

pub exported_as : (m : Module) (f : Fault) (r : Role) (es : List Export) (e : Export) → m.header.exports ≡ Some es → Contains es e → IsRoleIn f r e → IsExportedAs m f r
exported_as m f r es e listed c is = record { items = es; listed = listed; item = e; among = c; is_role = is }

abbrev HasRoleAt : Fault → Identifier → Role → Role → Type 0
HasRoleAt f n is r = (r ≡ is) × IsAt f n

of_variable : (f : Fault) (n : Identifier) (e : Export) (r : Role) → e ≡ export.Var n → HasRoleAt f n ExportedVariable r → IsRoleIn f r e
of_variable f n e r is at = subst (IsRoleIn f r) (sym is) (subst (λ q. IsRoleIn f q (export.Var n)) (sym at.0) (an_exported_variable at.1))

of_type : (f : Fault) (n : Identifier) (s : SubItems) (e : Export) (r : Role) → e ≡ export.Con n s → HasRoleAt f n TypeConstructor r → IsRoleIn f r e
of_type f n s e r is at = subst (IsRoleIn f r) (sym is) (subst (λ q. IsRoleIn f q (export.Con n s)) (sym at.0) (an_exported_type at.1))

pub variables : (f : Fault) (n : Identifier) (e : Export) (o : Option Role) → e ≡ export.Var n → IfSome o (HasRoleAt f n ExportedVariable) → IfSome o (λ r. IsRoleIn f r e)
variables f n e None is h = h
variables f n e (Some r) is h = of_variable f n e r is h

pub types : (f : Fault) (n : Identifier) (s : SubItems) (e : Export) (o : Option Role) → e ≡ export.Con n s → IfSome o (HasRoleAt f n TypeConstructor) → IfSome o (λ r. IsRoleIn f r e)
types f n s e None is h = h
types f n s e (Some r) is h = of_type f n s e r is h
