use Rattle.std.proofs.Common.{IfSome, subst}
use Rattle.std.specs.Prelude.{Contains}
use Rattle.hm_messages_details.specs.Parts.{IsPartRole, part_of}
use Rattle.hm_messages_details.proofs.Found.{at_index}
use Rattle.hm_messages_details.proofs.InModules.{somewhere_role}
use Rattle.hm_messages_details.proofs.roles.role_in_trees.Goals as goal

pub returns-in-Some : goal.returns-in-Some
returns-in-Some c = λ m parts.
    let f = c.args.fault.now in
    let item = c.part-item.result in
    somewhere_role m f c.in-Some.role (part_of item) (subst (λ l. Contains l (part_of item)) parts (at_index part_of c.args.parts.now c.parts.part-index item c.parts-test.true c.part-item.is))
    (subst (λ o. IfSome o (IsPartRole (part_of item) f)) c.in-Some.is c.role_in_part.ensures)
