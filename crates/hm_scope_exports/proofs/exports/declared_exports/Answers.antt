use Rattle.std.proofs.Common.{◌≡◌, None, ⊎_elim, inr}
use Rattle.hm_names.specs.Bindings.{Pair}
use Rattle.hm_names.proofs.AddedPairs.{for_more, for_all}
use Rattle.hm_scope_export_items.proofs.BareSets.{bare_exact}
use Rattle.hm_names.proofs.Members.{none_in}
use Rattle.hm_scope_exports.proofs.exports.declared_exports.Goals as goal

pub loop-pair-preserved : goal.loop-pair-preserved
loop-pair-preserved c = for_more (λ (q p : Pair). (q.qualifier ≡ None) × (q ≡ p)) c.new-given.result.items c.loop-pair.given.items c.add_bare.new.out.items c.deref-pair-items.result.now c.loop-pair.pair-index c.pair-item.result c.loop-pair-test.true c.pair-item.is c.loop-pair.invariant c.in_ok-add_bare.ensures

pub returns : goal.returns
returns c = λ p.
    let exact = bare_exact c.new-given.result.items c.loop-pair.given.items c.deref-pair-items.result.now c.new-given.ensures.items
    (for_all (λ (q p : Pair). (q.qualifier ≡ None) × (q ≡ p)) c.new-given.result.items c.loop-pair.given.items c.deref-pair-items.result.now c.loop-pair.pair-index c.loop-pair-test.false c.loop-pair.invariant) p in
    let declared = c.in_ok-add_declared.ensures p in (
      λ h. let a = exact.0 h in (⊎_elim (λ o. absurd (none_in p (rw c.new-declared.ensures.items at o))) (λ w. w) (declared.0 (rw c.deref-pair-items.ensures.value at a.0)), a.1),
      λ h. exact.1 (rw c.deref-pair-items.ensures.value (declared.1 (inr h.0)), h.1),
    )
