use Rattle.hm_lsp_sources.proofs.Followed.{all_follow}
use Rattle.hm_lsp_sources.proofs.following.Sources.follow_named.Goals as goal

pub returns-then-is_added-clause-following : goal.returns-then-is_added-clause-following
returns-then-is_added-clause-following g c =
    all_follow c.args.documents.now c.in_ok-is_added.is_added c.in_ok-is_other.is_other c.args.self.now c.add_all.new.self c.follow_all.new.self c.in_ok-is_added.ensures c.in_ok-is_other.ensures

pub returns-else-is_added-clause-following : goal.returns-else-is_added-clause-following
returns-else-is_added-clause-following g c =
    all_follow c.args.documents.now c.in_ok-is_added.is_added c.in_ok-is_other.is_other c.args.self.now c.add_all.new.self c.follow_all.new.self c.in_ok-is_added.ensures c.in_ok-is_other.ensures
