use Rattle.std.proofs.Common.{rules, ◌≡◌, ◌+◌, ◌-◌, ◌*◌, min, ℕ, List, length, take, drop, ap, subst, ◌∙◌, arith}
use Rattle.std.proofs.lemmas.List.{length_push, take_min, take_rest}
use Rattle.hm_messages_excerpts.specs.Columns.{stride, units_of}
use Rattle.hm_messages_excerpts.proofs.Counting.{rows_more, units_more}
use Rattle.hm_messages_excerpts.proofs.columns.units_table.Goals as goal

pub loop-row-preserved : goal.loop-row-preserved
loop-row-preserved c =
    let source : List ℕ = c.args.source.now in
    let row : ℕ = c.loop-row.row in
    let start : ℕ = row * stride in
    let old = c.loop-row.table.items in
    let sum = c.loop-row.sum in
    let raw : List ℕ = take (length source - start) (drop start source) in
    let pushed = c.in_ok-push.ensures.items in
    let part : c.units_in.result ≡ units_of (take (min stride (length raw)) raw) = search rules in
    let whole : c.units_in.result ≡ units_of (take stride (drop start source)) =
    part ∙ ap (λ (l : List ℕ). units_of (take (min stride (length l)) l)) (take_rest source start) ∙ ap units_of (take_min stride (drop start source)) in
    let next : start + stride ≡ (row + 1) * stride = omega arith in
    record {
      many = ap length pushed ∙ length_push old sum ∙ ap (λ (n : ℕ). n + 1) c.loop-row.invariant.many;
      each = rows_more source old c.push.new.self.items sum row c.loop-row.invariant.many c.loop-row.invariant.each c.loop-row.invariant.sum pushed;
      sum = subst (λ (n : ℕ). c.plus-sum.result ≡ units_of (take n source)) next
          (units_more source start stride sum c.units_in.result c.plus-sum.result c.loop-row.invariant.sum whole c.plus-sum.ensures.characters c.plus-sum.ensures.wide);
    }
