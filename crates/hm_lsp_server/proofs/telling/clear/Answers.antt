use Rattle.std.proofs.Common.{rules, ◌≡◌, ◌∙◌, Some, [], ◌∷◌, ap, inr, map, subst, sym}
use Rattle.std.proofs.lemmas.List.{map-append}
use Rattle.std.specs.Prelude.{option_map}
use Rattle.serde_json.specs.View.{view}
use Rattle.hm_lsp_server.specs.Published.{AreCleared}
use Rattle.hm_lsp_server.proofs.telling.clear.Goals as goal

pub returns : goal.returns
returns c =
    let encoding = c.args.telling.now.encoding in
    let notice = c.in_ok-notice_of.field-0 in
    let apart : ¬ (c.in-Some.old.now ≡ c.args.uri.now) = search rules in
    let cleared : AreCleared encoding (Some c.in-Some.old.now) c.args.uri.now (view notice ∷ []) = inr (apart, ap (λ d. d ∷ []) c.in_ok-notice_of.ensures) in (
      view notice ∷ [],
      ap (map view) c.in_ok-push.ensures.items ∙ map-append view c.args.sent.now.items (notice ∷ []),
      subst (λ o. AreCleared encoding (option_map (λ u. u.now) o) c.args.uri.now (view notice ∷ [])) (sym c.in-Some.is) cleared,
    )
