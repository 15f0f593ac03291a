use Rattle.std.proofs.Common.{◌≡◌, ◌<◌, rules, length, slice_index_or, slice_set, ap, ◌∙◌}
use Rattle.hm_run_tokens.specs.Parts.{moved}
use Rattle.hm_run_tokens.proofs.Lines.{next_is, set_next}
use Rattle.hm_run_tokens.proofs.moving.move_after.Goals as goal

pub tokens-preserved : goal.tokens-preserved
tokens-preserved c =
    let ts = c.args.tokens.items in
    let n = c.tokens.number in
    let token = c.index.result.now in
    let lt : c.tokens.number < length c.args.tokens.items = search rules in
    let here = c.index.ensures ∙ ap (λ xs. slice_index_or xs n token) c.tokens.invariant ∙ next_is (moved c.args.lines.now) ts n token lt in
    let is : c.moved_by.result ≡ moved c.args.lines.now c.index.result.now = search rules in
    ap (λ xs. slice_set xs n c.moved_by.result) c.tokens.invariant ∙ set_next (moved c.args.lines.now) ts n token lt c.moved_by.result (is ∙ ap (moved c.args.lines.now) here)
