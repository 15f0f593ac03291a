use Rattle.std.proofs.Common.{rules, ◌≡◌, [], ap, sym, ◌∙◌}
use Rattle.hm_store_shared.specs.Passes.{calls_of, known_of, room_of, seen_of, share_of, worker_of}
use Rattle.hm_store_shared.proofs.Dealt.{all_and_one, numbered}
use Rattle.hm_store_shared.proofs.dealing.deal.Goals as goal

pub loop-worker-preserved : goal.loop-worker-preserved
loop-worker-preserved g c =
    let i = c.loop-worker.invariant in
    let p = c.in_ok-pass.ensures in
    let ps = c.loop-worker.passes.items in
    record {
      left = search rules;
      amount = search rules;
      count = search rules;
      worker = rw c.in-Ok-push.ensures.items (numbered (λ q. worker_of q) ps c.in_ok-pass.pass c.loop-worker.worker (sym c.loop-worker.passes.ok.0 ∙ i.count) i.worker (p.worker ∙ ap (λ s. s.worker) c.enlist-token.ensures.seen));
      room = rw c.in-Ok-push.ensures.items (all_and_one (λ q. room_of q ≡ c.args.crew.room) ps c.in_ok-pass.pass i.room p.room);
      empty = rw c.in-Ok-push.ensures.items (all_and_one (λ q. calls_of q ≡ []) ps c.in_ok-pass.pass i.empty p.empty);
      parts = rw c.in-Ok-push.ensures.items (all_and_one (λ q. (share_of q).parts ≡ 1) ps c.in_ok-pass.pass i.parts (p.parts ∙ c.split_off-share.ensures.parts));
      seen = rw c.in-Ok-push.ensures.items (all_and_one (λ q. seen_of q ≡ c.args.front.now) ps c.in_ok-pass.pass i.seen (p.seen ∙ c.in-Ok.ensures));
      known = rw c.in-Ok-push.ensures.items (all_and_one (λ q. known_of q ≡ []) ps c.in_ok-pass.pass i.known (p.known ∙ (ap (λ s. s.entries) c.enlist-token.ensures.seen ∙ i.entries)));
      entries = ap (λ s. s.entries) c.enlist-token.ensures.same ∙ i.entries;
      hired = search rules;
    }
