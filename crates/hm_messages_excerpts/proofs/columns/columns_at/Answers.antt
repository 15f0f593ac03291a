use Rattle.std.proofs.Common.{arith}
use Rattle.hm_messages_excerpts.proofs.Counting.{characters_part, wide_part}
use Rattle.hm_messages_excerpts.proofs.columns.columns_at.Goals as goal

pub overflow_sub-characters : goal.overflow_sub-characters
overflow_sub-characters c =
    let part = characters_part c.args.source.now c.args.start c.args.offset _ _ c.units_before-before.ensures c.units_before-here.ensures in
    omega (arith, part)

pub overflow_sub-wide : goal.overflow_sub-wide
overflow_sub-wide c =
    let part = wide_part c.args.source.now c.args.start c.args.offset _ _ c.units_before-before.ensures c.units_before-here.ensures in
    omega (arith, part)

pub returns-clause-characters : goal.returns-clause-characters
returns-clause-characters c =
    let part = characters_part c.args.source.now c.args.start c.args.offset _ _ c.units_before-before.ensures c.units_before-here.ensures in
    omega (arith, part)

pub returns-clause-utf16 : goal.returns-clause-utf16
returns-clause-utf16 c =
    let part = characters_part c.args.source.now c.args.start c.args.offset _ _ c.units_before-before.ensures c.units_before-here.ensures in
    let wide = wide_part c.args.source.now c.args.start c.args.offset _ _ c.units_before-before.ensures c.units_before-here.ensures in
    omega (arith, part, wide)
