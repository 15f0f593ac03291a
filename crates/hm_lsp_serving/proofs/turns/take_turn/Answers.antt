use Rattle.std.proofs.Common.{[], ◌++◌, map, subst, sym}
use Rattle.hm_lsp_frames.specs.Pending.{TakesAll, item_of}
use Rattle.hm_lsp_session.specs.Cancelled.{cancels_of}
use Rattle.hm_lsp_serving.specs.Steps.{AreTakenUpTo}
use Rattle.hm_lsp_serving.proofs.Turning.{last_turn_of, turn_of, written_joined}
use Rattle.hm_lsp_serving.proofs.turns.take_turn.Goals as goal

pub returns-clause-turn : goal.returns-clause-turn
returns-clause-turn g c waits held =
    let stream = waits ++ c.args.piece.now in
    let of = g.W.Write.contents in
    let whole = c.as_slice-whole.result.now in
    let frames = c.take_all.new.frames in
    let cancels = cancels_of c.in_ok-cancelled.cancelled in
    let before = c.args.serving.now.server in
    let middle = c.take_frames.new.serving.server in
    let after = c.finish.new.serving.server in
    let first = c.in_ok-status.ensures.taken in
    let later = c.in_ok-finish.ensures.told in
    let takes = subst (TakesAll frames stream []) (sym c.as_slice-whole.ensures.value) (subst (λ l. TakesAll frames stream l c.take_all.new.taken.items) c.new-whole.ensures.items (c.in_ok-take_all.ensures stream (c.in_ok-add.ensures.added waits held))) in
    let taken = subst (AreTakenUpTo cancels (map item_of whole) before middle first.0) c.in-None.is first.1.0 in
    let t = turn_of stream frames whole cancels before middle after first.0 later.0 takes c.in_ok-cancelled.ensures taken later.1.0 in
    (t.0, (first.0 ++ later.0, (t.1.0, (t.1.1, written_joined (of c.args.writer.now) (of c.take_frames.new.writer) (of c.finish.new.writer) first.0 later.0 first.1.1 later.1.1))))

pub returns-in-Some-clause-turn : goal.returns-in-Some-clause-turn
returns-in-Some-clause-turn g c waits held =
    let stream = waits ++ c.args.piece.now in
    let whole = c.as_slice-whole.result.now in
    let frames = c.take_all.new.frames in
    let cancels = cancels_of c.in_ok-cancelled.cancelled in
    let before = c.args.serving.now.server in
    let first = c.in_ok-status.ensures.taken in
    let takes = subst (TakesAll frames stream []) (sym c.as_slice-whole.ensures.value)
    (subst (λ l. TakesAll frames stream l c.take_all.new.taken.items) c.new-whole.ensures.items (c.in_ok-take_all.ensures stream (c.in_ok-add.ensures.added waits held))) in
    let ends = subst (AreTakenUpTo cancels (map item_of whole) before c.take_frames.new.serving.server first.0) c.in-Some.is first.1.0 in
    let t = last_turn_of stream frames whole cancels before first.0 c.in-Some.status takes c.in_ok-cancelled.ensures ends in
    (t.0, (first.0, (t.1.0, (t.1.1, first.1.1))))
