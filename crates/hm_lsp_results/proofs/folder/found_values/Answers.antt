use Rattle.std.proofs.Common.{◌∙◌, ◌+◌, map, ap, rules, subst, sym, take}
use Rattle.std.specs.List.{AllZip, filter}
use Rattle.serde_json.specs.View.{view}
use Rattle.serde_json.proofs.Views.{view-Array}
use Rattle.hm_lsp_results.specs.Asked.{subject_of}
use Rattle.hm_lsp_results.specs.Symbols.{IsFound, is_found}
use Rattle.hm_lsp_results.proofs.Chosen.{all_chosen, chosen_less, chosen_more}
use Rattle.hm_lsp_results.proofs.folder.found_values.Goals as goal
use Rattle.hm_lsp_results.proofs.folder.found_values.Goals.{then-is_found+in_ok-found_value+in_ok-push, else-is_found}

pub symbols-preserved : goal.symbols-preserved
symbols-preserved c =
    let P = IsFound (subject_of c.args.asked.now) in
    let f = is_found (subject_of c.args.asked.now) c.args.query.now in
    let r = c.one-item.result in
    let walks = c.symbols.invariant.0 in
    let before = c.symbols.invariant.1 in (
      elim c.if-is_found.branch [
        | then-is_found+in_ok-found_value+in_ok-push w ↦ ap (λ v. v.items) w.cursors-is ∙ w.in_ok-found_value.ensures.walks ∙ walks
        | else-is_found w ↦ ap (λ v. v.items) w.cursors-is ∙ walks
      ],
      elim c.if-is_found.branch [
        | then-is_found+in_ok-found_value+in_ok-push w ↦
            chosen_more P f c.args.symbols.now c.symbols.one-index r w.in_ok-found_value.field-0 c.symbols.values.items c.if-is_found.values.items c.symbols-test.true c.one-item.is before
            (sym c.is_found.ensures ∙ w.if-is_found.true) w.in_ok-found_value.ensures.value (ap (λ v. v.items) w.values-is ∙ w.in_ok-push.ensures.items)
        | else-is_found w ↦
            subst (λ l. AllZip P (filter f (take (c.symbols.one-index + 1) c.args.symbols.now)) (map view l)) (ap (λ v. v.items) (sym w.values-is))
            (chosen_less P f c.args.symbols.now c.symbols.one-index r (map view c.symbols.values.items) c.symbols-test.true c.one-item.is before (sym c.is_found.ensures ∙ w.if-is_found.false))
      ],
    )

pub returns : goal.returns
returns c = record {
  values = map view c.symbols.values.items;
  each = all_chosen (IsFound (subject_of c.args.asked.now)) (is_found (subject_of c.args.asked.now) c.args.query.now) c.args.symbols.now c.symbols.one-index (map view c.symbols.values.items) (search rules) c.symbols.invariant.1;
  whole = view-Array c.symbols.values;
}
