use Rattle.std.proofs.lemmas.Result.{IfErr-weaker, IfOk-weaker}
use Rattle.hm_run_parallel_parse.proofs.making.+made_by_threads.Goals as goal

pub returns-in-Ok-clause-ok : goal.returns-in-Ok-clause-ok
returns-in-Ok-clause-ok g t c =
    let kept = rw c.in-Ok.ensures.ok at c.join.ensures in
    IfOk-weaker c.joined.result _ _ (λ r h. h _ _ _ kept.0 c.made_by_threads-later.ensures.ok) c.joined.ensures.ok

pub returns-in-Ok-clause-err : goal.returns-in-Ok-clause-err
returns-in-Ok-clause-err g t c =
    let kept = rw c.in-Ok.ensures.ok at c.join.ensures in
    IfErr-weaker c.joined.result _ _ (λ e h. h _ _ _ kept.0 kept.1 c.made_by_threads-later.ensures.err) c.joined.ensures.err

pub returns-in-Err-clause-ok : goal.returns-in-Err-clause-ok
returns-in-Err-clause-ok g t c = IfOk-weaker c.joined-in-Err.result _ _ (λ r h. h _ _ _ c.made-in-Err.ensures.ok c.made_by_threads-later.ensures.ok) c.joined-in-Err.ensures.ok

pub returns-in-Err-clause-err : goal.returns-in-Err-clause-err
returns-in-Err-clause-err g t c = IfErr-weaker c.joined-in-Err.result _ _ (λ e h. h _ _ _ c.made-in-Err.ensures.ok c.made-in-Err.ensures.err c.made_by_threads-later.ensures.err) c.joined-in-Err.ensures.err
