use Rattle.hm_messages_details.proofs.RolesOfExports.{types, variables}
use Rattle.hm_messages_details.proofs.roles.role_in_export.Goals as goal

pub returns-in-Var : goal.returns-in-Var
returns-in-Var c = variables c.args.fault.now c.in-Var.name c.args.item.now c.role_at.result c.in-Var.is c.role_at.ensures

pub returns-in-Con : goal.returns-in-Con
returns-in-Con c = types c.args.fault.now c.in-Con.name c.in-Con.field-1 c.args.item.now c.role_at-in-Con.result c.in-Con.is c.role_at-in-Con.ensures
