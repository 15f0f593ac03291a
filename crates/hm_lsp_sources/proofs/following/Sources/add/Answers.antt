use Rattle.hm_lsp_sources.proofs.Grown.{following_pushed}
use Rattle.std.proofs.Common.{string_bytes}
use Rattle.hm_lsp_sources.proofs.following.Sources.add.Goals as goal

pub returns-clause-following : goal.returns-clause-following
returns-clause-following g c documents own none = following_pushed (string_bytes c.args.uri) c.args.file.items c.args.self.now c.push.new.self c.in_ok-push.ensures documents own none
