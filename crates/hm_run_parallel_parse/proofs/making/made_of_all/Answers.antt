use Rattle.std.proofs.lemmas.Result.{IfErr-weaker, IfOk-weaker}
use Rattle.hm_run_sources.proofs.Reading.{all_fail, all_follow}
use Rattle.hm_run_parallel_parse.proofs.making.made_of_all.Goals as goal

pub returns-clause-ok : goal.returns-clause-ok
returns-clause-ok g c = IfOk-weaker c.made_by_threads.result _ _ (λ read h. all_follow (λ s. s.items) c.args.sources.now read.modules.items read.counts.items h) c.made_by_threads.ensures.ok

pub returns-clause-err : goal.returns-clause-err
returns-clause-err g c = IfErr-weaker c.made_by_threads.result _ _ (λ e h. all_fail (λ s. s.items) c.args.sources.now e h) c.made_by_threads.ensures.err
