use Rattle.std.proofs.Common.{[], ◌++◌, refl, subst}
use Rattle.hm_lsp_frames.specs.Pending.{item_of}
use Rattle.hm_lsp_session.specs.Cancelled.{cancels_of}
use Rattle.hm_lsp_serving.specs.Taking.{IsFrameDone}
use Rattle.hm_lsp_serving.specs.Turns.{none}
use Rattle.hm_lsp_serving.proofs.Turning.{ended_at, taken_more, written_joined, written_none}
use Rattle.hm_lsp_serving.proofs.turns.take_frames.Goals as goal

pub frames-init : goal.frames-init
frames-init g c = (c.requires, ([], (none refl refl refl, written_none (g.W.Write.contents c.args.writer.now))))

pub returns-in-Some-clause-taken : goal.returns-in-Some-clause-taken
returns-in-Some-clause-taken g c =
    let of = g.W.Write.contents in
    let cancels = cancels_of c.args.cancelled.now in
    let before = c.frames.serving.server in
    let after = c.step.new.serving.server in
    let earlier = c.frames.invariant.1 in
    let later = c.in_ok-status.ensures.done in
    let ends = subst (λ status. IsFrameDone cancels (item_of c.frame-item.result) before after later.0 status) c.in-Some.is later.1.0 in (
      earlier.0 ++ later.0,
      (
        ended_at cancels c.args.frames.now c.frames.frame-index c.frame-item.result c.args.serving.now.server before after earlier.0 later.0 c.in-Some.status c.frames-test.true c.frame-item.is earlier.1.0 ends,
        written_joined (of c.args.writer.now) (of c.frames.writer) (of c.step.new.writer) earlier.0 later.0 earlier.1.1 later.1.1,
      ),
    )

pub frames-preserved : goal.frames-preserved
frames-preserved g c =
    let of = g.W.Write.contents in
    let cancels = cancels_of c.args.cancelled.now in
    let before = c.frames.serving.server in
    let after = c.step.new.serving.server in
    let earlier = c.frames.invariant.1 in
    let later = c.in_ok-status.ensures.done in
    let done = subst (λ status. IsFrameDone cancels (item_of c.frame-item.result) before after later.0 status) c.in-None.is later.1.0 in (
      c.in_ok-status.ensures.orderly,
      (
        earlier.0 ++ later.0,
        (
          taken_more cancels c.args.frames.now c.frames.frame-index c.frame-item.result c.args.serving.now.server before after earlier.0 later.0 c.frames-test.true c.frame-item.is earlier.1.0 done,
          written_joined (of c.args.writer.now) (of c.frames.writer) (of c.step.new.writer) earlier.0 later.0 earlier.1.1 later.1.1,
        ),
      ),
    )
