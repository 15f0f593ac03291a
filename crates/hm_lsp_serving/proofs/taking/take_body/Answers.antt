use Rattle.std.proofs.Common.{IfNone, IfSome, refl, subst}
use Rattle.serde_json.specs.View.{view}
use Rattle.hm_lsp_session.specs.Cancelled.{IsCancelledReply, cancels_of}
use Rattle.hm_lsp_serving.specs.Taking.{IsNotCancelled, cancelled, understood}
use Rattle.hm_lsp_serving.proofs.taking.take_body.Goals as goal

pub returns-in-Some-clause-taken : goal.returns-in-Some-clause-taken
returns-in-Some-clause-taken g c =
    cancelled (subst (λ found. IfSome found (λ r. IsCancelledReply (cancels_of c.args.cancelled.now) c.args.body.now (view r))) c.in-Some.is c.in_ok-reply.ensures.some) refl refl

pub returns-clause-taken : goal.returns-clause-taken
returns-clause-taken g c =
    let e = c.in_ok-take.ensures in
    understood (subst (λ found. IfNone found (IsNotCancelled (cancels_of c.args.cancelled.now) c.args.body.now)) c.in-None.is c.in_ok-reply.ensures.none) c.in_ok-open.ensures.opened
    record { step = e.step; reply = e.reply; served = e.served; from = e.taken; kept = e.kept; good = e.good; noted = e.noted }
