use Rattle.std.proofs.Common.{map}
use Rattle.hm_uses_references.proofs.Referred.{referred_more}
use Rattle.hm_uses_references.proofs.finding.referred.Goals as goal

pub names-preserved : goal.names-preserved
names-preserved c =
    referred_more (map (λ n. n.now) c.args.on.now) c.args.names.now c.names.one-index c.one-item.result c.names.found.items c.add.new.found.items c.is_same_as_any.result c.names-test.true c.one-item.is c.names.invariant c.is_same_as_any.ensures
    c.in_ok-add.ensures.yes c.in_ok-add.ensures.none
