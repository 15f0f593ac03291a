use Rattle.std.proofs.Common.{◌≡◌, ℕ, List, IfOk, map, ap, subst, sym, ◌∙◌}
use Rattle.std.specs.Arc.{arc_value}
use Rattle.hm_syntax.specs.declared.ast.Module.{Module}
use Rattle.hm_store_shared.specs.Gathered.{records_in}
use Rattle.hm_run_sources.specs.SourceModules.{AreModulesOf}
use Rattle.hm_build_reports.specs.FinishedBuilds.{IsFinished}
use Rattle.hm_build_stages.specs.Rooms.{room_of}
use Rattle.hm_build.proofs.Rooms.{all_have_room}
use Rattle.hm_build.proofs.building.worked.Goals as goal

pub run_workers-passes-requires-clause-room : goal.run_workers-passes-requires-clause-room
run_workers-passes-requires-clause-room g c κs within =
    let e = c.in_ok-shared.ensures in
    let rooms : c.in_ok-room.room ≡ room_of g.L.Naming.plan = c.in_ok-room.ensures.0 ∙ (ap (λ xs. room_of (map (λ row. row.items) xs)) c.as_slice.ensures.value ∙ ap room_of (c.requires.rows ∙ c.requires.plan)) in
    all_have_room g.L.Naming.plan c.in_ok-shared.passes.items c.in_ok-room.room e.room e.known rooms

pub returns-clause-finished : goal.returns-clause-finished
returns-clause-finished g c =
    let same = c.requires.same ∙ (c.requires.subjects ∙ sym c.into_store-store.ensures.modules) in
    subst (λ (ms : List Module). IfOk c.finished.result (λ f. (sources : List (List ℕ)) → AreModulesOf sources ms → IsFinished sources c.args.task.now.workers f.store (records_in f.records))) (sym same) c.finished.ensures.finished
