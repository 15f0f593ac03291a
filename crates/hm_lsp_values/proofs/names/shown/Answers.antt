use Rattle.std.proofs.Common.{rules, ap, codes, string_bytes, ◌∙◌, ◌++◌}
use Rattle.hm_lsp_values.proofs.Showing.{more_kept, more_left, whole_kept, whole_left}
use Rattle.hm_lsp_values.proofs.names.shown.Goals as goal
use Rattle.hm_lsp_values.proofs.names.shown.Goals.{then-not-is_bound-2+in_ok-push_str-3, else-not-is_bound-2}

pub lines-preserved-in_ok-push_str-2 : goal.lines-preserved-in_ok-push_str-2
lines-preserved-in_ok-push_str-2 c = (
  more_kept c.args.text.now c.lines.rest.now c.in-Some.line.now c.in-Some.later.now (string_bytes c.lines.shown) (string_bytes c.push_str-then-not-is_bound.new.self) c.is_bound.result c.lines.invariant.0
      (search rules) c.is_bound.ensures c.if-not-is_bound.true
      (c.in_ok-push_str-2.ensures.bytes ∙ ap (λ l. l ++ codes "\n") c.in_ok-push_str.ensures.bytes),
  search rules,
)

pub lines-preserved : goal.lines-preserved
lines-preserved c = (
  more_left c.args.text.now c.lines.rest.now c.in-Some.line.now c.in-Some.later.now (string_bytes c.lines.shown) c.is_bound.result c.lines.invariant.0
      (search rules) c.is_bound.ensures c.if-not-is_bound.false,
  search rules,
)

pub returns : goal.returns
returns c = elim c.if-not-is_bound-2.branch [
  | then-not-is_bound-2+in_ok-push_str-3 w ↦ whole_kept c.args.text.now c.lines.rest.now (string_bytes c.lines.shown) (string_bytes c.if-not-is_bound-2.shown) c.is_bound-2.result c.lines.invariant.0
      (search rules) c.is_bound-2.ensures w.if-not-is_bound-2.true (ap string_bytes w.shown-is ∙ w.in_ok-push_str-3.ensures.bytes)
  | else-not-is_bound-2 w ↦ whole_left c.args.text.now c.lines.rest.now (string_bytes c.lines.shown) (string_bytes c.if-not-is_bound-2.shown) c.is_bound-2.result c.lines.invariant.0
      (search rules) c.is_bound-2.ensures w.if-not-is_bound-2.false (ap string_bytes w.shown-is)
]
