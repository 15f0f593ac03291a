use Rattle.std.proofs.Common.{sym, ◌∙◌}
use Rattle.hm_lex.proofs.NameRuns.{word_longest, variable_longest}
use Rattle.hm_lex.proofs.names.variable.Goals as goal

pub returns-then-is_reserved : goal.returns-then-is_reserved
returns-then-is_reserved c =
    (c.name_len-len.ensures.within, word_longest c.args.bytes.now c.name_len-len.result c.requires c.name_len-len.ensures.run (sym c.is_reserved.ensures ∙ c.if-is_reserved.true))

pub returns-else-is_reserved : goal.returns-else-is_reserved
returns-else-is_reserved c =
    (c.name_len-len.ensures.within, variable_longest c.args.bytes.now c.name_len-len.result c.requires c.name_len-len.ensures.run (sym c.is_reserved.ensures ∙ c.if-is_reserved.false))
