use Rattle.std.proofs.Common.{rules}
use Rattle.hm_lsp_frames.proofs.Fields.{length_named}
use Rattle.hm_lsp_frames.proofs.headers.is_length.Goals as goal

pub returns : goal.returns
returns c = length_named c.args.bytes.now _ _ (search rules) c.eq_ignore_ascii_case.ensures.test
