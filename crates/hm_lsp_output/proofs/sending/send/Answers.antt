use Rattle.std.proofs.Common.{[], refl, subst}
use Rattle.std.specs.Io.KnownBytes.{Appends}
use Rattle.std.proofs.KnownBytes.{Appends-nil}
use Rattle.hm_lsp_output.proofs.Written.{written_more}
use Rattle.hm_lsp_output.proofs.sending.send.Goals as goal

pub messages-init : goal.messages-init
messages-init g c = ([], (refl, Appends-nil (g.W.Write.contents c.args.writer.now)))

pub messages-preserved : goal.messages-preserved
messages-preserved g c =
    let of = g.W.Write.contents in
    written_more c.args.messages.now c.messages.message-index c.message-item.result (of c.args.writer.now) (of c.messages.writer) (of c.write_all.new.self) c.in_ok-frame.frame.items c.messages-test.true c.message-item.is c.in_ok-frame.ensures
    (subst (Appends (of c.messages.writer) (of c.write_all.new.self)) c.deref.ensures.value c.in-Ok.ensures.bytes) c.messages.invariant
