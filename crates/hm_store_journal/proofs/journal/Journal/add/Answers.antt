use Rattle.std.proofs.Common.{arith, ap, sym, subst, refl, List, Some, [], ◌∷◌, ◌++◌, ℕ, ◌≡◌, ◌∙◌, ◌==◌}
use prog.Atomic.{either}
use mathlib.Core.List.{IsPrefix}
use mathlib.Core.Option.{some-injective}
use Rattle.hm_store_journal.specs.Entries.{by, writer_of}
use Rattle.hm_store.specs.declared.object.Entry.{Entry}
use Rattle.hm_store_journal.specs.Rules.{grown}
use Rattle.hm_store_journal.proofs.Keeping.{appends, compares, gives, own_more, takes, tells}
use Rattle.hm_store_journal.proofs.journal.Journal.add.Goals as goal

pub split_seat-spare-requires : goal.split_seat-spare-requires
split_seat-spare-requires g c =
    let i = c.self.invariant in
    let seat = c.self.inside.seat in (i.0, omega (arith, i.2), tells seat.id seat.me.0)

pub join_seat-requires : goal.join_seat-requires
join_seat-requires g c =
    let i = c.self.invariant in
    let o = c.known.invariant in
    let seat = c.split_seat-spare.new.seat in
    let other = c.replace-other.result in
    let same = c.replace-other.ensures.value in
    let e = c.split_seat-spare.ensures in (
      e.0 ∙ i.0,
      ap (λ s. s.table_id) same ∙ (o.0 ∙ (sym i.1 ∙ i.0)),
      ap (λ s. s.me.1) same ∙ o.2,
      omega (arith, i.2),
      takes seat.id seat.me.0 other.id other.me.0 (ap (λ m. m.0.main) e.2 ∙ i.3) (ap (λ m. m.0.own) e.2 ∙ i.5) (ap (λ s. s.me.0.main) same ∙ o.1),
    )

pub load-requires : goal.load-requires
load-requires g c =
    let i = c.self.invariant in
    let seat = c.join_seat.new.seat in
    let e = c.split_seat-spare.ensures in
    let me = c.join_seat.ensures.2 in (
      c.join_seat.ensures.0 ∙ (e.0 ∙ i.0),
      omega (arith, i.2),
      compares _ seat.id seat.me (ap (λ m. m.0.main) me ∙ (ap (λ m. m.0.main) e.2 ∙ i.3)),
    )

pub compare_exchange_with-requires : goal.compare_exchange_with-requires
compare_exchange_with-requires g c =
    let i = c.self.invariant in
    let o = c.known.invariant in
    let seat = c.load.new.seat in
    let e = c.split_seat-spare.ensures in
    let step = c.load.ensures in
    let me = c.join_seat.ensures.2 in
    let same = c.replace-other.ensures.value in
    let worker : writer_of c.args.entry ≡ c.known.inside.worker = c.requires ∙ ap (λ k. k.worker) (sym c.known.view_is) in
    let es : List Entry = by c.known.inside.worker c.known.inside.seat.me.0.seen in (
      step.0 ∙ (c.join_seat.ensures.0 ∙ (e.0 ∙ i.0)),
      omega (arith, i.2),
      appends _ seat.id seat.me c.args.entry (λ n. either (n == 0) 0 n) (ap (λ m. m.0.main) step.2.2 ∙ (ap (λ m. m.0.main) me ∙ (ap (λ m. m.0.main) e.2 ∙ i.3)))
          (es, ap (λ m. m.0.own) step.2.2 ∙ (ap (λ m. m.0.own) me ∙ (ap (λ s. s.me.0.own) same ∙ (o.3 ∙ ap (λ (n : ℕ). Some (n, es)) (sym worker))))),
    )

pub split_seat-requires : goal.split_seat-requires
split_seat-requires g c =
    let i = c.self.invariant in
    let seat = c.compare_exchange_with.new.seat in
    let e = c.split_seat-spare.ensures in
    let step = c.load.ensures in
    let more = c.compare_exchange_with.ensures in
    let me = c.join_seat.ensures.2 in (
      more.0 ∙ (step.0 ∙ (c.join_seat.ensures.0 ∙ (e.0 ∙ i.0))),
      omega (arith, i.2),
      gives seat.id seat.me.0 (ap (λ m. m.0.main) more.2.2 ∙ (ap (λ m. m.0.main) step.2.2 ∙ (ap (λ m. m.0.main) me ∙ (ap (λ m. m.0.main) e.2 ∙ i.3))))
          (subst (λ (t : List Entry). IsPrefix t seat.me.0.seen) (sym (ap (λ m. m.0.told) more.2.2)) (seat.me.0.seen, refl)),
    )

pub invariant_of-known : goal.invariant_of-known
invariant_of-known g c =
    let i = c.self.invariant in
    let o = c.known.invariant in
    let e = c.split_seat-spare.ensures in
    let step = c.load.ensures in
    let more = c.compare_exchange_with.ensures in
    let last = c.split_seat.ensures in
    let me = c.join_seat.ensures.2 in
    let same = c.replace-other.ensures.value in
    let worker : writer_of c.args.entry ≡ c.known.inside.worker = c.requires ∙ ap (λ k. k.worker) (sym c.known.view_is) in
    let es : List Entry = by c.known.inside.worker c.known.inside.seat.me.0.seen in
    let own = ap (λ m. m.0.own) me ∙ (ap (λ s. s.me.0.own) same ∙ o.3) in
    let entry : c.args.entry ≡ more.2.0 = some-injective c.args.entry more.2.0 more.2.1 in
    let all : by c.known.inside.worker c.load.new.seat.me.0.seen ≡ es = ap (λ m. by c.known.inside.worker m.0.seen) step.2.2 ∙ step.2.1 c.known.inside.worker es own in
    let grows : by c.known.inside.worker (c.load.new.seat.me.0.seen ++ more.2.0 ∷ []) ≡ es ++ more.2.0 ∷ [] = own_more c.known.inside.worker c.load.new.seat.me.0.seen es more.2.0 (ap writer_of (sym entry) ∙ worker) all in (
      last.3 ∙ (more.0 ∙ (step.0 ∙ (c.join_seat.ensures.0 ∙ (e.0 ∙ i.1)))),
      ap (λ m. m.0.main) last.4,
      ap (λ m. m.1) last.4,
      ap (λ m. m.0.own) last.4 ∙ (ap (λ m. m.0.own) more.2.2 ∙ (ap (λ o. grown o more.2.0) (ap (λ m. m.0.own) step.2.2 ∙ own)
          ∙ (ap (λ (xs : List Entry). Some (c.known.inside.worker, xs)) (sym grows) ∙ ap (λ (xs : List Entry). Some (c.known.inside.worker, by c.known.inside.worker xs)) (sym (ap (λ m. m.0.seen) last.4 ∙ ap (λ m. m.0.seen) more.2.2))))),
    )
