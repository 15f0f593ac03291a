use Rattle.std.proofs.Common.{◌↔◌, ℕ, below_more}
use Rattle.hm_uses_renames.proofs.Alike.{one_test}
use Rattle.hm_service_rename.specs.Sets.{IsGood}
use Rattle.hm_service_rename.proofs.good.are_good.Goals as goal

pub modules-preserved : goal.modules-preserved
modules-preserved c =
    let here = one_test c.is_good.result c.is_good-in-modules.result (IsGood c.args.store.now c.modules.number) (IsGood c.args.other.now c.modules.number) c.if-is_good.false c.is_good.ensures c.is_good-in-modules.ensures in
    below_more (λ (k : ℕ). IsGood c.args.store.now k ↔ IsGood c.args.other.now k) _ c.modules.invariant here
