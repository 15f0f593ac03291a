use Rattle.std.proofs.Common.{◌↔◌}
use Rattle.hm_uses_references.specs.SetNames.{IsSame}
use Rattle.hm_uses_renames.proofs.Pairs.{pairs_more}
use Rattle.hm_uses_renames.proofs.Alike.{one_test}
use Rattle.hm_uses_renames.proofs.comparing.are_of.Goals as goal

pub names-preserved : goal.names-preserved
names-preserved c =
    let here = one_test c.is_same.result c.is_same-in-names.result (IsSame c.args.one.now c.index-names-i.result) (IsSame c.args.other.now c.index-later-i.result) c.if-is_same.false c.is_same.ensures c.is_same-in-names.ensures in
    pairs_more (λ m n. IsSame c.args.one.now m ↔ IsSame c.args.other.now n) c.args.names.now c.args.later.now c.names.i c.index-names-i.result c.index-later-i.result c.requires c.names-test.true c.index-names-i.is c.index-later-i.is c.names.invariant here
