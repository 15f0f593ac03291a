use Rattle.hm_messages_excerpts.proofs.Plain.{plain_before, plain_whole}
use Rattle.hm_messages_excerpts.proofs.lines.line_len.Goals as goal

pub returns-in-Some-clause-plain : goal.returns-in-Some-clause-plain
returns-in-Some-clause-plain c = plain_before c.args.bytes.now _ c.in-Some.ensures

pub returns-in-None-clause-plain : goal.returns-in-None-clause-plain
returns-in-None-clause-plain c = plain_whole c.args.bytes.now c.in-None.ensures
