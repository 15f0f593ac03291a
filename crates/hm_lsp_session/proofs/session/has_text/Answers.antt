use Rattle.std.proofs.Common.{sym}
use Rattle.std.proofs.lemmas.Bool.{both_ways}
use Rattle.hm_lsp_session.proofs.Offering.{has_at, none_more}
use Rattle.hm_lsp_session.proofs.session.has_text.Goals as goal

pub returns-then-is_text-clause-yes : goal.returns-then-is_text-clause-yes
returns-then-is_text-clause-yes c true_is = has_at c.args.text.now c.args.values.now c.values.value-index c.value-item.result c.values-test.true c.value-item.is (c.is_text.ensures.0 c.if-is_text.true)

pub values-preserved : goal.values-preserved
values-preserved c =
    none_more c.args.text.now c.args.values.now c.values.value-index c.value-item.result c.values-test.true c.value-item.is c.values.invariant
    (λ same. both_ways c.is_text.result c.if-is_text.false (c.is_text.ensures.1 same))
