use Rattle.std.proofs.Common.{◌⊎◌}
use Rattle.hm_names.specs.Bindings.{Pair}
use Rattle.hm_scope_export_items.specs.ExportGroups.{group_of, IsOfWhole, IsOfOwner}
use Rattle.hm_names.proofs.AddedPairs.{for_none, for_more, for_all}
use Rattle.hm_scope_export_items.proofs.export_groups.add_pairs.Goals as goal

pub loop-pair-init : goal.loop-pair-init
loop-pair-init c = λ ds table k. for_none (λ (q p : Pair). IsOfWhole c.args.bare.now q k p ⊎ IsOfOwner ds q k p) (group_of c.args.groups.now k) c.args.pairs.now

pub loop-pair-preserved : goal.loop-pair-preserved
loop-pair-preserved c = λ ds table k.
    for_more (λ (q p : Pair). IsOfWhole c.args.bare.now q k p ⊎ IsOfOwner ds q k p) (group_of c.args.groups.now k) (group_of c.loop-pair.groups k) (group_of c.add_pair.new.groups k) c.args.pairs.now c.loop-pair.pair-index c.pair-item.result c.loop-pair-test.true c.pair-item.is (c.loop-pair.invariant ds table k)
    (c.in_ok-add_pair.ensures ds table k)

pub returns : goal.returns
returns c = λ ds table k. for_all (λ (q p : Pair). IsOfWhole c.args.bare.now q k p ⊎ IsOfOwner ds q k p) (group_of c.args.groups.now k) (group_of c.loop-pair.groups k) c.args.pairs.now c.loop-pair.pair-index c.loop-pair-test.false (c.loop-pair.invariant ds table k)
