use Rattle.std.specs.Arc.{arc_value}
use Rattle.hm_store_published.proofs.Showing.{shows_none}
use Rattle.hm_store_published.proofs.published.Published.new.Goals as goal

pub invariant_of-result : goal.invariant_of-result
invariant_of-result g c = shows_none arc_value c.in_ok-interfaces.interfaces.items c.args.front c.args.modules c.requires c.in_ok-interfaces.ensures
