use Rattle.std.proofs.Common.{◌≡◌, ◌∙◌, ◌+◌, false, get_or, map, ap, rules, subst, sym, take}
use Rattle.std.proofs.lemmas.List.{get_or_default}
use Rattle.hm_uses_references.specs.declared.finding.Reference.{Reference}
use Rattle.std.specs.List.{AllZip, filter}
use Rattle.serde_json.specs.View.{view}
use Rattle.serde_json.proofs.Views.{view-Array}
use Rattle.hm_lsp_results.specs.Asked.{subject_of}
use Rattle.hm_lsp_results.specs.References.{IsLocated, is_located}
use Rattle.hm_lsp_results.proofs.Chosen.{all_chosen, chosen_less, chosen_more}
use Rattle.hm_lsp_results.proofs.referring.located_values.Goals as goal
use Rattle.hm_lsp_results.proofs.referring.located_values.Goals.{then-is_located+in_ok-located_value+in_ok-push, else-is_located}

pub references-preserved : goal.references-preserved
references-preserved c =
    let P = IsLocated (subject_of c.args.asked.now) in
    let f = is_located (subject_of c.args.asked.now) c.args.declarations in
    let none : Reference = record { source = 0; line = 0; column = 0; length = 0; binds = false } in
    let r : Reference = get_or c.args.references.now c.references.reference-index none in
    let at : r ≡ get_or c.args.references.now c.references.reference-index r = get_or_default c.args.references.now c.references.reference-index none r c.references-test.true in
    let walks = c.references.invariant.0 in
    let before = c.references.invariant.1 in (
      elim c.if-is_located.branch [
        | then-is_located+in_ok-located_value+in_ok-push w ↦ ap (λ v. v.items) w.cursors-is ∙ w.in_ok-located_value.ensures.walks ∙ walks
        | else-is_located w ↦ ap (λ v. v.items) w.cursors-is ∙ walks
      ],
      elim c.if-is_located.branch [
        | then-is_located+in_ok-located_value+in_ok-push w ↦
            chosen_more P f c.args.references.now c.references.reference-index r w.in_ok-located_value.field-0 c.references.values.items c.if-is_located.values.items c.references-test.true at before
            (sym c.is_located.ensures ∙ w.if-is_located.true) w.in_ok-located_value.ensures.value (ap (λ v. v.items) w.values-is ∙ w.in_ok-push.ensures.items)
        | else-is_located w ↦
            subst (λ l. AllZip P (filter f (take (c.references.reference-index + 1) c.args.references.now)) (map view l)) (ap (λ v. v.items) (sym w.values-is))
            (chosen_less P f c.args.references.now c.references.reference-index r (map view c.references.values.items) c.references-test.true at before (sym c.is_located.ensures ∙ w.if-is_located.false))
      ],
    )

pub returns : goal.returns
returns c = record {
  values = map view c.references.values.items;
  each = all_chosen (IsLocated (subject_of c.args.asked.now)) (is_located (subject_of c.args.asked.now) c.args.declarations) c.args.references.now c.references.reference-index (map view c.references.values.items) (search rules) c.references.invariant.1;
  whole = view-Array c.references.values;
}
