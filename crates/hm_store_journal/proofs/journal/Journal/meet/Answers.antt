use Rattle.std.proofs.Common.{arith, ap, sym, subst, ◌∙◌}
use mathlib.Core.List.{IsPrefix}
use Rattle.hm_store_journal.proofs.Keeping.{compares, gives, takes, tells}
use Rattle.hm_store_journal.proofs.journal.Journal.meet.Goals as goal

pub split_seat-spare-requires : goal.split_seat-spare-requires
split_seat-spare-requires g c =
    let i = c.self.invariant in
    let seat = c.self.inside.seat in (i.0, omega (arith, i.2), tells seat.id seat.me.0)

pub join_seat-requires : goal.join_seat-requires
join_seat-requires g c =
    let i = c.self.invariant in
    let o = c.known.invariant in
    let seat = c.split_seat-spare.new.seat in
    let other = c.replace-other.result in
    let same = c.replace-other.ensures.value in
    let e = c.split_seat-spare.ensures in (
      e.0 ∙ i.0,
      ap (λ s. s.table_id) same ∙ (o.0 ∙ (sym i.1 ∙ i.0)),
      ap (λ s. s.me.1) same ∙ o.2,
      omega (arith, i.2),
      takes seat.id seat.me.0 other.id other.me.0 (ap (λ m. m.0.main) e.2 ∙ i.3) (ap (λ m. m.0.own) e.2 ∙ i.5) (ap (λ s. s.me.0.main) same ∙ o.1),
    )

pub load-requires : goal.load-requires
load-requires g c =
    let i = c.self.invariant in
    let seat = c.join_seat.new.seat in
    let e = c.split_seat-spare.ensures in
    let me = c.join_seat.ensures.2 in (
      c.join_seat.ensures.0 ∙ (e.0 ∙ i.0),
      omega (arith, i.2),
      compares _ seat.id seat.me (ap (λ m. m.0.main) me ∙ (ap (λ m. m.0.main) e.2 ∙ i.3)),
    )

pub split_seat-requires : goal.split_seat-requires
split_seat-requires g c =
    let i = c.self.invariant in
    let seat = c.load.new.seat in
    let e = c.split_seat-spare.ensures in
    let step = c.load.ensures in
    let me = c.join_seat.ensures.2 in (
      step.0 ∙ (c.join_seat.ensures.0 ∙ (e.0 ∙ i.0)),
      omega (arith, i.2),
      gives seat.id seat.me.0 (ap (λ m. m.0.main) step.2.2 ∙ (ap (λ m. m.0.main) me ∙ (ap (λ m. m.0.main) e.2 ∙ i.3)))
          (subst (λ m. IsPrefix m.0.told m.0.seen) (sym step.2.2) step.2.0),
    )
