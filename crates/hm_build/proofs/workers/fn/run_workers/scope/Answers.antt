use Rattle.std.proofs.Common.{codes}
use mir.Syntax.{named}
use denote.Exit.{no}
use denote.Array.{Array}
use denote.Param.{param}
use denote.Param.Send.{IsSend, IsSync, arg_send, mut_send, param_send, shr_send}
use denote.Ref.{NamedLft}
use Rattle.hm_store_published.specs.contracts.publication.Publication as Publication
use Rattle.hm_store_published.specs.contracts.published.PublishedAbsorbStep.TheImpl as Absorbs
use Rattle.hm_build.proofs.Crossing.{captures_send, pass_send, work_sync}
use Rattle.hm_build.proofs.workers.fn.run_workers.scope.Goals as goal

-- a worker's closure has the handle, the work and a pass
pub spawn_scoped-requires-send-F : goal.spawn_scoped-requires-send-F
spawn_scoped-requires-send-F g c κs within =
    let given = c.requires-raw.1.1.1.1 in
    let send : IsSend (param 0 g.row.L) = given.0 in
    let held : IsSend (param 2 g.row.W) = given.1.0 in
    let sync : IsSync (param 0 g.row.L) = given.1.1.0 in
    let gate : IsSync (param 1 g.row.G) = given.1.1.1.0 in
    let rt : IsSync (param 3 g.row.R) = given.1.1.1.1.0 in
    let inner : NamedLft = record { mir = named 7; lft = κs.1.1.1.1.1.1.1.0 } in
    let S = Array Publication.the_row 0 in
    let absorbs = Absorbs.ghosts (param 0 g.row.L) g.L.Naming g.L.Naming-dict in
    let work = work_sync (param 0 g.row.L) g.L.Ledger g.L.Naming send sync (param 2 g.row.W) S absorbs held inner (param 1 g.row.G) gate in
    let pass = pass_send (param 0 g.row.L) g.L.Ledger g.L.Naming send sync in
    param_send 1 _
    (arg_send _ no _
    (captures_send (codes "hm_build::workers::fn::run_workers::fn::scope::spawn_scoped+Self")
    _ _ _
    (shr_send _ _ _ rt)
    (shr_send _ _ _ work)
    (mut_send _ _ _ pass)))
