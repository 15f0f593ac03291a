use Rattle.std.proofs.Common.{arith, ap, sym, subst, refl, List, ◌∙◌}
use mathlib.Core.List.{IsPrefix}
use Rattle.hm_store.specs.declared.object.Entry.{Entry}
use Rattle.hm_store_journal.proofs.Keeping.{gives, hires}
use Rattle.hm_store_journal.proofs.journal.Journal.enlist.Goals as goal

pub load-requires : goal.load-requires
load-requires g c =
    let i = c.self.invariant in
    let seat = c.self.inside.seat in (i.0, omega (arith, i.2), hires _ seat.id seat.me i.3 i.5)

pub split_seat-requires : goal.split_seat-requires
split_seat-requires g c =
    let i = c.self.invariant in
    let seat = c.load.new.seat in
    let step = c.load.ensures in (
      step.0 ∙ i.0,
      omega (arith, i.2),
      gives seat.id seat.me.0 (ap (λ m. m.0.main) step.2.1 ∙ i.3) (subst (λ (t : List Entry). IsPrefix t seat.me.0.seen) (sym (ap (λ m. m.0.told) step.2.1)) (seat.me.0.seen, refl)),
    )
