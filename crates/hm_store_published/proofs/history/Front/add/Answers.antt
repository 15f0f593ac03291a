use Rattle.std.proofs.Common.{◌≡◌, ◌++◌, ◌∷◌, ◌==◌, [], true, sym, ◌∙◌, ap, arith, length-append}
use Rattle.std.proofs.lemmas.Bool.Decides.{nat_tests}
use Rattle.hm_store_published.specs.Publications.{MayFollow}
use Rattle.hm_store_published.proofs.Adding.{adds_moves}
use Rattle.hm_store_published.proofs.Lawful.{more_lawful}
use Rattle.hm_store_published.proofs.history.Front.add.Goals as goal

pub compare_exchange-found-requires : goal.compare_exchange-found-requires
compare_exchange-found-requires g c =
    let h = c.args.history.now.head_is in
    let offer = c.plain-offer.ensures in
    let pen = c.no_pen-pen.ensures in (
      ap (λ w. w.tracked) h,
      c.self.invariant.1 ∙ sym (ap (λ w. w.book) h),
      pen.0 ∙ (c.self.invariant.1 ∙ sym (ap (λ w. w.book) h)),
      offer.0,
      rw (ap (λ w. w.key) h, pen.1, offer.1, offer.3) (adds_moves c.self.inside.seen.log c.args.publication.now c.self.inside.count (sym c.self.invariant.0)),
    )

pub invariant_of-self-2 : goal.invariant_of-self-2
invariant_of-self-2 g c =
    let old = c.self.inside.seen.log in
    let p = c.args.publication.now in
    let step = c.compare_exchange-found.ensures in
    let found : (c.compare_exchange-found.result == c.self.inside.count) ≡ true = grind (arith, nat_tests) in
    let more : c.compare_exchange-found.new.seen.log ≡ old ++ p ∷ [] = rw (found, c.plain-offer.ensures.1) at step.7 in
    let may : MayFollow _ _ old p = rw c.self.view_is c.requires.lawful in (
      rw more (omega (arith, c.self.invariant.0, length-append old (p ∷ []))),
      step.0 ∙ c.self.invariant.1,
      rw more (more_lawful _ _ old p c.self.invariant.2 may),
    )
