use Rattle.std.proofs.Common.{sym}
use Rattle.hm_messages_details.proofs.known.ambiguous_detail.Goals as goal

pub returns-in-Some : goal.returns-in-Some
returns-in-Some c = λ fs scope. c.in-Some.ensures c.args.fault.now fs c.requires (sym c.as_str-name.ensures) scope
