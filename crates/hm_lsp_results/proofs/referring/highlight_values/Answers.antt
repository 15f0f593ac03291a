use Rattle.std.proofs.Common.{◌≡◌, ◌∙◌, ◌+◌, false, get_or, map, ap, rules, subst, sym, take}
use Rattle.std.proofs.lemmas.List.{get_or_default}
use Rattle.hm_uses_references.specs.declared.finding.Reference.{Reference}
use Rattle.std.specs.List.{AllZip, filter}
use Rattle.serde_json.specs.View.{view}
use Rattle.serde_json.proofs.Views.{view-Array}
use Rattle.hm_lsp_positions.specs.Cursors.{Walk}
use Rattle.hm_lsp_values.specs.References.{IsHighlight}
use Rattle.hm_lsp_results.specs.References.{is_in}
use Rattle.hm_lsp_results.proofs.Chosen.{all_chosen, chosen_less, chosen_more}
use Rattle.hm_lsp_results.proofs.referring.highlight_values.Goals as goal
use Rattle.hm_lsp_results.proofs.referring.highlight_values.Goals.{then-is_in+in_ok-highlight_value+in_ok-push, else-is_in}

pub references-preserved : goal.references-preserved
references-preserved c =
    let P = IsHighlight c.args.asked.now.encoding c.args.text.now in
    let f = is_in c.args.source in
    let none : Reference = record { source = 0; line = 0; column = 0; length = 0; binds = false } in
    let r : Reference = get_or c.args.references.now c.references.reference-index none in
    let at : r ≡ get_or c.args.references.now c.references.reference-index r = get_or_default c.args.references.now c.references.reference-index none r c.references-test.true in
    let walk = c.references.invariant.0 in
    let before = c.references.invariant.1 in (
      elim c.if-is_in.branch [
        | then-is_in+in_ok-highlight_value+in_ok-push w ↦ w.cursor-is ∙ w.in_ok-highlight_value.ensures.same ∙ walk
        | else-is_in w ↦ w.cursor-is ∙ walk
      ],
      elim c.if-is_in.branch [
        | then-is_in+in_ok-highlight_value+in_ok-push w ↦
            chosen_more P f c.args.references.now c.references.reference-index r w.in_ok-highlight_value.field-0 c.references.values.items c.if-is_in.values.items c.references-test.true at before (sym c.is_in.ensures ∙ w.if-is_in.true)
            (subst (λ (x : Walk). IsHighlight x.encoding x.text r (view w.in_ok-highlight_value.field-0)) walk w.in_ok-highlight_value.ensures.value) (ap (λ v. v.items) w.values-is ∙ w.in_ok-push.ensures.items)
        | else-is_in w ↦
            subst (λ l. AllZip P (filter f (take (c.references.reference-index + 1) c.args.references.now)) (map view l)) (ap (λ v. v.items) (sym w.values-is))
            (chosen_less P f c.args.references.now c.references.reference-index r (map view c.references.values.items) c.references-test.true at before (sym c.is_in.ensures ∙ w.if-is_in.false))
      ],
    )

pub returns : goal.returns
returns c = record {
  values = map view c.references.values.items;
  each = all_chosen (IsHighlight c.args.asked.now.encoding c.args.text.now) (is_in c.args.source) c.args.references.now c.references.reference-index (map view c.references.values.items) (search rules) c.references.invariant.1;
  whole = view-Array c.references.values;
}
