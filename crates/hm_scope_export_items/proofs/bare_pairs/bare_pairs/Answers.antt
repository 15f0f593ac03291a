use Rattle.std.proofs.Common.{◌≡◌, None, [], refl}
use Rattle.hm_names.specs.Bindings.{Pair}
use Rattle.hm_names.proofs.AddedPairs.{for_more, for_all}
use Rattle.hm_scope_export_items.proofs.BareSets.{bare_exact}
use Rattle.hm_scope_export_items.proofs.bare_pairs.bare_pairs.Goals as goal

pub loop-pair-preserved : goal.loop-pair-preserved
loop-pair-preserved c = for_more (λ (q p : Pair). (q.qualifier ≡ None) × (q ≡ p)) [] c.loop-pair.bare c.add_bare.new.bare c.args.pairs.now c.loop-pair.pair-index c.pair-item.result c.loop-pair-test.true c.pair-item.is c.loop-pair.invariant c.in_ok-add_bare.ensures

pub returns : goal.returns
returns c = bare_exact [] c.loop-pair.bare c.args.pairs.now refl (for_all (λ (q p : Pair). (q.qualifier ≡ None) × (q ≡ p)) [] c.loop-pair.bare c.args.pairs.now c.loop-pair.pair-index c.loop-pair-test.false c.loop-pair.invariant)
