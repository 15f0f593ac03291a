use Rattle.std.proofs.Common.{◌+◌, ℕ, Global, Vec, length, sym, ap, ◌∙◌, subst, subst₂}
use Rattle.std.specs.Bool.{Decides}
use Rattle.hm_infer_context.specs.Constructors.{known_of}
use Rattle.hm_infer_context.specs.Environments.{assumptions}
use Rattle.hm_infer.specs.SignedFaults.{AreRefused, IsFaultAt}
use Rattle.hm_infer.proofs.SignedFaults.{PlacesBefore, opposite, places_all, places_pushed, places_same}
use Rattle.hm_infer.proofs.signed_faults.signed_faults.Goals.{then-is_fault_at+in_ok-push, else-is_fault_at}
use Rattle.hm_infer.proofs.signed_faults.signed_faults.Goals as goal

pub is_fault_at-requires-clause-refused : goal.is_fault_at-requires-clause-refused
is_fault_at-requires-clause-refused c = ap length c.deref-in-decls-2.ensures.value ∙ c.in_ok-refused.ensures.sized

pub decls-preserved : goal.decls-preserved
decls-preserved c =
    let ds = c.args.list.now.decls.now in
    let waiting = c.in_ok-waiting.waiting.items in
    let refused = c.in_ok-refused.refused.items in
    let fault : Decides c.is_fault_at.result (IsFaultAt c.args.list.now.decls.now c.in_ok-waiting.waiting.items c.in_ok-refused.refused.items c.decls.place) =
    subst₂ (λ a b. Decides c.is_fault_at.result (IsFaultAt c.args.list.now.decls.now a b c.decls.place)) c.deref-in-decls.ensures.value c.deref-in-decls-2.ensures.value c.is_fault_at.ensures in
    record {
      told = elim c.if-is_fault_at.branch [
        | then-is_fault_at+in_ok-push w ↦ places_pushed ds waiting refused c.decls.place c.decls.places.items c.if-is_fault_at.places.items (ap (λ (v : Vec ℕ Global). v.items) w.places-is ∙ w.in_ok-push.ensures.items) (fault.0 w.if-is_fault_at.true) c.decls.invariant.told
        | else-is_fault_at w ↦ subst (PlacesBefore ds waiting refused (c.decls.place + 1)) (sym (ap (λ (v : Vec ℕ Global). v.items) w.places-is)) (places_same ds waiting refused c.decls.place c.decls.places.items (λ h. opposite (fault.1 h) w.if-is_fault_at.false) c.decls.invariant.told)
      ];
    }

pub returns : goal.returns
returns c = record {
  told = λ all a. record {
    waiting = c.in_ok-waiting.waiting.items;
    are_waiting = c.in_ok-waiting.ensures.told;
    refused = c.in_ok-refused.refused.items;
    are_refused = subst (λ z. AreRefused (known_of c.args.list.now.constructors.now) all (assumptions c.args.inference.now.environment) c.args.list.now.decls.now z c.in_ok-refused.refused.items) c.deref.ensures.value (c.in_ok-refused.ensures.told all a);
    exact = places_all c.args.list.now.decls.now c.in_ok-waiting.waiting.items c.in_ok-refused.refused.items c.decls.place c.decls.places.items c.decls-test.false c.decls.invariant.told;
  };
}
