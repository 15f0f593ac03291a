use Rattle.std.proofs.Common.{rules}
use Rattle.hm_lsp_frames.proofs.Pendings.{body_taken, long_missing, long_taken, malformed_taken}
use Rattle.hm_lsp_frames.proofs.frames.Frames.take_held.Goals as goal

pub returns-then-left-gt0-clause-taken : goal.returns-then-left-gt0-clause-taken
returns-then-left-gt0-clause-taken c =
    long_missing c.held-held.result.now c.args.self.now.bytes.items c.args.self.now.start c.in-TooLong.count c.in-TooLong.left (search rules) c.in-TooLong.ensures (search rules)

pub returns-in-Malformed-clause-taken : goal.returns-in-Malformed-clause-taken
returns-in-Malformed-clause-taken c =
    malformed_taken c.held-held.result.now c.args.self.now.bytes.items c.args.self.now.start c.in-Malformed.count c.args.self.now.passing (search rules) c.in-Malformed.ensures c.requires

pub returns-in_ok-body-in-Body-clause-taken : goal.returns-in_ok-body-in-Body-clause-taken
returns-in_ok-body-in-Body-clause-taken c =
    body_taken c.held-held.result.now c.args.self.now.bytes.items c.in_ok-body-in-Body.body.items c.args.self.now.start c.in-Body.start c.in-Body.end c.args.self.now.passing (search rules) c.in-Body.ensures (search rules)
    c.requires

pub returns-else-left-gt0-clause-taken : goal.returns-else-left-gt0-clause-taken
returns-else-left-gt0-clause-taken c =
    long_taken c.held-held.result.now c.args.self.now.bytes.items c.args.self.now.start c.in-TooLong.count c.in-TooLong.left c.args.self.now.passing (search rules) c.in-TooLong.ensures (search rules) c.requires
