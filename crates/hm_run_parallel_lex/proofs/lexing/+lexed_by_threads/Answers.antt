use Rattle.hm_run_parallel_lex.proofs.Spans.{joined_rest}
use Rattle.hm_run_parallel_lex.proofs.lexing.+lexed_by_threads.Goals as goal

pub returns-in-Ok : goal.returns-in-Ok
returns-in-Ok g t c =
    let kept = rw c.in-Ok.ensures.ok at c.join.ensures in
    joined_rest c.args.rest.source.now _ _ _ c.args.rest.from c.part_len-len.result c.join.result c.lexed_by_threads-later.result c.joined.result c.split_at.ensures.front c.split_at.ensures.back c.split_at-2.ensures.front
    c.if-len-text.false c.requires.short c.part_len-len.ensures.line c.joined.ensures kept c.lexed_by_threads-later.ensures

pub returns-in-Err : goal.returns-in-Err
returns-in-Err g t c =
    joined_rest c.args.rest.source.now _ _ _ c.args.rest.from c.part_len-len.result c.lexed.result c.lexed_by_threads-later.result c.joined-in-Err.result c.split_at.ensures.front c.split_at.ensures.back c.split_at-2.ensures.front
    c.if-len-text.false c.requires.short c.part_len-len.ensures.line c.joined-in-Err.ensures c.lexed.ensures c.lexed_by_threads-later.ensures
