use Rattle.std.proofs.Common.{rules}
use Rattle.hm_lsp_frames.proofs.Pendings.{now_passed, still_missing}
use Rattle.hm_lsp_frames.proofs.frames.Frames.next.Goals as goal

pub returns-then-left-gt0-clause-taken : goal.returns-then-left-gt0-clause-taken
returns-then-left-gt0-clause-taken c = λ stream h. still_missing c.args.self.now.passing c.in-Some.left _ stream c.in-Some.is (search rules) h

pub returns-else-left-gt0-clause-taken : goal.returns-else-left-gt0-clause-taken
returns-else-left-gt0-clause-taken c = λ stream h. now_passed c.args.self.now.passing c.in-Some.left _ stream c.in-Some.is (search rules) h
