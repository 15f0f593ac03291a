use Rattle.std.proofs.Common.{◌≡◌, ◌∙◌, rules, sym}
use Rattle.hm_service_rename.proofs.Held.{not_same_at, same_more}
use Rattle.hm_service_rename.proofs.whole.are_same.Goals as goal

pub texts-preserved : goal.texts-preserved
texts-preserved c =
    let same : c.index-texts-i.result.items ≡ c.index-others-i.result.items = search rules in
    same_more c.args.texts.now c.args.others.now c.texts.i c.index-texts-i.result c.index-others-i.result c.texts-test.true (search rules) c.index-texts-i.is c.index-others-i.is same c.texts.invariant

pub returns-then-not-is_same-clause-no : goal.returns-then-not-is_same-clause-no
returns-then-not-is_same-clause-no c = λ _ h.
    let apart : ¬ (c.index-texts-i.result.items ≡ c.index-others-i.result.items) = λ e. c.is_same.ensures.no c.if-not-is_same.true (c.as_slice.ensures.value ∙ e ∙ sym c.as_slice-in-texts.ensures.value) in
    not_same_at c.args.texts.now c.args.others.now c.texts.i c.index-texts-i.result c.index-others-i.result c.texts-test.true (search rules) c.index-texts-i.is c.index-others-i.is apart h
