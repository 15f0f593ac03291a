use Rattle.std.proofs.Common.{All, refl, subst, sym, ◌∙◌}
use Rattle.std.proofs.lemmas.List.{take_all}
use Rattle.std.proofs.lemmas.List.Elements.{All-more}
use Rattle.hm_store.specs.Agreement.{CallAgrees}
use Rattle.hm_store.proofs.Playing.{rises_less, rises_next}
use Rattle.hm_store.proofs.store.Store.record_agrees.Goals as goal

pub loop-call-preserved : goal.loop-call-preserved
loop-call-preserved c =
    let xs = c.deref-call-items.result.now in
    let k = c.loop-call.call-index in
    let call = c.call-item.result in
    let agrees = CallAgrees c.args.self.now c.args.log.now.worker in
    let next = rises_next c.loop-call.replay.at k xs call c.loop-call-test.true c.call-item.is c.loop-call.invariant.ahead in
    record {
      agree = All-more agrees xs k call c.loop-call-test.true c.loop-call.invariant.agree (subst agrees c.call-item.is (c.call_agrees.ensures.agrees.0 c.if-not-call_agrees.false));
      replay = c.call_agrees.ensures.replay;
      ahead = rises_less call.at c.call_agrees.new.replay.at _ c.call_agrees.ensures.place next.1;
    }

pub returns : goal.returns
returns c =
    let xs = c.deref-call-items.result.now in
    let k = c.loop-call.call-index in
    let agrees = CallAgrees c.args.self.now c.args.log.now.worker in
    let all : All agrees xs = subst (All agrees) (take_all k xs c.loop-call-test.false) c.loop-call.invariant.agree in (
      λ _. record { order = sym c.is_ordered.ensures ∙ c.if-not-is_ordered.false; calls = subst (All agrees) c.deref-call-items.ensures.value all },
      λ _. refl,
    )
