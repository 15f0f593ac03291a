use Rattle.std.proofs.Common.{◌≡◌, All, get_or, subst, sym}
use Rattle.std.proofs.lemmas.List.{take_all}
use Rattle.std.proofs.lemmas.List.Elements.{All-more}
use Rattle.hm_service_candidates.specs.Ranges.{IsIn}
use Rattle.hm_service_messages.specs.declared.diagnostic.Diagnostic.{Diagnostic}
use Rattle.hm_service_candidates.proofs.ranges.has_message_in.Goals as goal

pub returns-then-is_in-clause-yes : goal.returns-then-is_in-clause-yes
returns-then-is_in-clause-yes c = λ yes. (c.messages.index, c.index-messages-index.result, c.messages-test.true, sym c.index-messages-index.is, c.is_in.ensures.yes c.if-is_in.true)

pub messages-preserved : goal.messages-preserved
messages-preserved c =
    let d = c.index-messages-index.result in
    All-more (λ (x : Diagnostic). ¬ (IsIn c.args.range.now x)) c.args.messages.now c.messages.index d c.messages-test.true c.messages.invariant (subst (λ (x : Diagnostic). ¬ (IsIn c.args.range.now x)) c.index-messages-index.is (c.is_in.ensures.no c.if-is_in.false))

pub returns-clause-no : goal.returns-clause-no
returns-clause-no c = λ e. subst (All (λ (x : Diagnostic). ¬ (IsIn c.args.range.now x))) (take_all c.messages.index c.args.messages.now c.messages-test.false) c.messages.invariant
