use Rattle.hm_messages_lexemes.proofs.Fronts.{few_dashes}
use Rattle.hm_messages_lexemes.proofs.foreign.may_be_dashes.Goals as goal

pub returns-then-dashes_len-len : goal.returns-then-dashes_len-len
returns-then-dashes_len-len c e h = few_dashes c.args.bytes.now c.args.len c.dashes_len.result c.dashes_len.ensures.run c.requires c.if-dashes_len-len.true h
