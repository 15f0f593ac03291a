use Rattle.std.proofs.Common.{false, filter, ◌∙◌}
use Rattle.std.specs.Prelude.{slice_index_or}
use Rattle.std.proofs.lemmas.Result.{IfOk-weaker}
use Rattle.hm_scope.proofs.needed_synonyms.needed_order.Goals as goal

pub returns : goal.returns
returns c = IfOk-weaker c.marked_of.result _ _ (λ order is fs scope. record {
  marks = c.in_ok-marks.marks.items;
  needed = c.in_ok-marks.ensures fs scope;
  all = c.in_ok-order.order.items;
  ordered = c.in_ok-order.ensures;
  is = is ∙ (λ i. filter (λ k. slice_index_or (c.deref-2.ensures.value i) k false) (c.deref.ensures.value i));
}) c.marked_of.ensures
