use Rattle.hm_lsp_sources.specs.Held.{held_in, named_in}
use Rattle.hm_lsp_sources.proofs.Followed.{named_of}
use Rattle.hm_lsp_sources.proofs.following.Sources.read_file.Goals as goal

pub returns-then-is_added-clause-following : goal.returns-then-is_added-clause-following
returns-then-is_added-clause-following g c before own = c.in_ok-is_other.ensures.following (c.in_ok-is_added.ensures.named (named_of before (named_in c.args.self.now) (held_in c.args.self.now) own))

pub returns-then-is_added-clause-read : goal.returns-then-is_added-clause-read
returns-then-is_added-clause-read g c = (named_in c.place_file.new.self, (c.in_ok-is_added.ensures.is, c.in_ok-is_other.ensures.kept))

pub returns-else-is_added-clause-following : goal.returns-else-is_added-clause-following
returns-else-is_added-clause-following g c before own = c.in_ok-is_other.ensures.following (c.in_ok-is_added.ensures.named (named_of before (named_in c.args.self.now) (held_in c.args.self.now) own))

pub returns-else-is_added-clause-read : goal.returns-else-is_added-clause-read
returns-else-is_added-clause-read g c = (named_in c.place_file.new.self, (c.in_ok-is_added.ensures.is, c.in_ok-is_other.ensures.kept))
