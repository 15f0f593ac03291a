use Rattle.std.proofs.Common.{◌≡◌, ◌-◌, true, sym, ap, ◌∙◌, arith}
use Rattle.std.proofs.lemmas.List.{get_or-set_same}
use Rattle.hm_store.specs.Objects.{is_waiting, status_at}
use Rattle.hm_store.specs.Readiness.{count_at}
use Rattle.hm_store.proofs.OpenImports.{counted_within, freed}
use Rattle.hm_store.proofs.store.ready_set.close_import.Goals as goal

pub returns-then-is_waiting-clause-heap : goal.returns-then-is_waiting-clause-heap
returns-then-is_waiting-clause-heap c =
    let counts = c.args.counts.now in
    let number = c.args.number in
    let left = count_at counts number - 1 in
    let waits : is_waiting (status_at c.args.statuses.now number) ≡ true = ap is_waiting (sym c.status_at.ensures) ∙ (sym c.is_waiting.ensures ∙ c.if-is_waiting.true) in
    let none : left ≡ 0 = omega (arith, c.if-counts-number-gt0.false, get_or-set_same counts number left 0 (counted_within counts number c.requires.count)) in
    freed c.args.statuses.now counts number left c.args.ready.now c.put.new.ready c.requires.count waits none (c.put.ensures.order c.requires.heap.order) c.put.ensures.each c.requires.heap
