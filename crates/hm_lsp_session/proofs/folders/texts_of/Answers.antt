use Rattle.std.proofs.Common.{rules, ◌∙◌, ◌++◌, ap, option_map, string_bytes, sym, take}
use Rattle.std.specs.Prelude.{option_to_list}
use Rattle.serde_json.specs.View.{items_view}
use Rattle.hm_lsp_session.specs.Folders.{texts_in}
use Rattle.hm_lsp_session.proofs.Listing.{texts_more}
use Rattle.hm_lsp_session.proofs.folders.texts_of.Goals as goal

pub listed-preserved : goal.listed-preserved
listed-preserved c =
    let vs = c.args.values.now in
    let i = c.listed.value-index in
    c.in_ok-add.ensures ∙ ap (λ l. l ++ option_to_list (option_map string_bytes c.in_ok-text.text)) c.listed.invariant
    ∙ ap (λ o. texts_in (items_view (take i vs)) ++ option_to_list o) c.in_ok-text.ensures ∙ sym (texts_more vs i c.value-item.result (search rules) (search rules))
