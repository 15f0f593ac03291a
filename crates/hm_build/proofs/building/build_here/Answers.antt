use Rattle.std.proofs.Common.{map}
use Rattle.std.specs.Arc.{arc_value}
use Rattle.hm_run_sources.specs.SourceModules.{AreModulesOf}
use Rattle.std.proofs.lemmas.Result.{IfErr-weaker}
use Rattle.hm_build.proofs.BuildFaults.{build_error}
use Rattle.hm_build.proofs.Headlines.{finished_have_verdicts}
use Rattle.hm_build.proofs.building.build_here.Goals as goal

pub returns-clause-verdicts : goal.returns-clause-verdicts
returns-clause-verdicts g c =
    finished_have_verdicts c.settled_builds_are_settled_sets.ensures c.settled_modules_have_their_verdicts.ensures.verdicts c.settled_modules_have_their_verdicts.ensures.accepted c.settled_modules_have_their_verdicts.ensures.principal
    (map (λ s. s.items) c.args.sources.now) c.args.task.workers (λ s. AreModulesOf s (map arc_value c.in_ok-fresh.fresh.modules.items)) c.worked.result c.worked.ensures.finished c.in_ok-fresh.ensures.read

pub returns-clause-err : goal.returns-clause-err
returns-clause-err g c =
    let fresh = c.in_ok-fresh.fresh in
    IfErr-weaker c.worked.result _ _ (λ e h. build_error (map (λ s. s.items) c.args.sources.now) (map arc_value fresh.modules.items) fresh.counts.items e c.in_ok-fresh.ensures.counted h) c.worked.ensures.err
