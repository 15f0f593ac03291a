use Rattle.std.proofs.Common.{take}
use Rattle.hm_lsp_output.proofs.Written.{AreWritten}
use Rattle.hm_lsp_output.proofs.sending.send.Given as goal

abbrev pub invariant-messages : goal.invariant-messages
invariant-messages g l = AreWritten (take l.message-index l.messages) (g.W.Write.contents l.initial.writer) (g.W.Write.contents l.writer)
