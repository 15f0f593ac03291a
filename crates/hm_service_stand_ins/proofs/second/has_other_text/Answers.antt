use Rattle.std.proofs.Common.{◌∙◌, ℕ, ◌<◌, subst, sym}
use Rattle.hm_service_stand_ins.proofs.Growing.{same_at, same_more}
use Rattle.hm_service_stand_ins.proofs.second.has_other_text.Goals as goal

pub sources-preserved : goal.sources-preserved
sources-preserved c =
    let same = sym c.as_slice.ensures.value ∙ (c.is_same.ensures.yes c.if-not-is_same.false ∙ c.as_slice-in-sources.ensures.value) in
    let inside = subst (λ (m : ℕ). c.sources.number < m) (sym c.requires) c.sources-test.true in
    same_more c.args.held.now c.args.set.now c.sources.number
    (same_at c.args.held.now c.args.set.now c.sources.number c.index-held-number.result c.index-set-number.result c.sources-test.true inside same) c.sources.invariant
