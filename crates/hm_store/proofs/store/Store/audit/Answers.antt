use Rattle.std.proofs.Common.{All, length, subst, ap, arith}
use Rattle.std.proofs.lemmas.List.{take_all}
use Rattle.std.proofs.lemmas.List.Elements.{All-more}
use Rattle.hm_store.specs.Agreement.{RecordAgrees}
use Rattle.hm_store.proofs.store.Store.audit.Goals as goal

pub loop-log-preserved : goal.loop-log-preserved
loop-log-preserved c = let agrees = RecordAgrees c.args.self.now in
    All-more agrees c.args.records.now c.loop-log.log-index c.log-item.result c.loop-log-test.true c.loop-log.invariant
    (subst agrees c.log-item.is (c.in_ok-record_agrees.ensures.0 c.if-not-branch.false))

pub returns : goal.returns
returns c = let agrees = RecordAgrees c.args.self.now in
    let rs = c.args.records.now in
    let once = c.in_ok-is_each_written_once.ensures in
    let count = ap length c.journal.ensures.journal in (
      λ ok. record {
        once = λ i lt. once.0 ok i (omega (arith, count, lt));
        records = subst (All agrees) (take_all c.loop-log.log-index rs c.loop-log-test.false) c.loop-log.invariant;
      },
      λ agree. once.1 (λ i lt. agree.once i (omega (arith, count, lt))),
    )
