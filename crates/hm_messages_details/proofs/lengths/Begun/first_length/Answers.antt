use Rattle.hm_messages_details.proofs.LaterClauses.{first_length_case}
use Rattle.hm_messages_details.proofs.lengths.Begun.first_length.Goals as goal

pub returns : goal.returns
returns c = first_length_case c.self.inside.binding c.args.self.now c.in-Some.field-0-0 c.in-Some.count c.self.view_is c.in-Some.is
