use Rattle.hm_messages_excerpts.proofs.lines.SourceLines.columns.Goals as goal

pub columns_of-requires : goal.columns_of-requires
columns_of-requires c = (c.args.place, c.in_ok-spot.ensures.some)

pub returns-clause-some : goal.returns-clause-some
returns-clause-some c = c.columns_of.ensures c.args.place c.in_ok-spot.ensures.some
