use Rattle.hm_lsp_sources.specs.Held.{held_in, named_in}
use Rattle.hm_lsp_sources.proofs.Followed.{named_of}
use Rattle.hm_lsp_sources.proofs.following.Sources.follow.Goals as goal

pub returns-clause-following : goal.returns-clause-following
returns-clause-following g c before own = c.in_ok-follow_named.ensures.following (named_of before (named_in c.args.self.now) (held_in c.args.self.now) own)
