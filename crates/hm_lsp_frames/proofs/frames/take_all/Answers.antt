use Rattle.hm_lsp_frames.proofs.Pendings.{all_taken, none_taken, nothing_taken, one_taken, some_taken}
use Rattle.hm_lsp_frames.proofs.frames.take_all.Goals as goal

pub loop-frame-init : goal.loop-frame-init
loop-frame-init c = λ stream h. none_taken c.args.frames.now stream c.args.taken.now.items h

pub loop-frame-preserved : goal.loop-frame-preserved
loop-frame-preserved c =
    λ stream h.
    one_taken c.loop-frame.frames c.next.new.self stream c.args.taken.now.items c.loop-frame.taken.items c.push.new.self.items c.in-Some.frame (c.loop-frame.invariant stream h)
    (some_taken c.in_ok-frame.field-0 c.in-Some.frame c.loop-frame.frames c.next.new.self c.in-Some.is c.in_ok-frame.ensures.taken) c.in_ok-push.ensures.items

pub returns : goal.returns
returns c =
    λ stream h.
    all_taken c.loop-frame.frames c.next.new.self stream c.args.taken.now.items c.loop-frame.taken.items (c.loop-frame.invariant stream h)
    (nothing_taken c.in_ok-frame.field-0 c.loop-frame.frames c.next.new.self c.in_default.is c.in_ok-frame.ensures.taken)
