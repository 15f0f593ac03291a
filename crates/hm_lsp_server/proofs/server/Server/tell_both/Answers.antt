use Rattle.std.proofs.Common.{◌≡◌, ◌∙◌, [], None, Some, ap, append-nil, map, refl, string_bytes, sym}
use Rattle.std.specs.Prelude.{option_map}
use Rattle.serde_json.specs.View.{view}
use Rattle.hm_service_places.specs.declared.checked.Checked.{Checked}
use Rattle.hm_lsp_server.proofs.Publishing.{told_by}
use Rattle.hm_lsp_server.proofs.server.Server.tell_both.Goals as goal

none_some : (d : Checked) → None ≡ Some d → ⊥
none_some d e = cc

pub returns-in_default-clause-published : goal.returns-in_default-clause-published
returns-in_default-clause-published c = ([], sym (append-nil (map view c.args.sent.now.items)), λ d at. absurd (none_some d (sym c.in_default.is ∙ at)))

pub returns-clause-published : goal.returns-clause-published
returns-clause-published c =
    let made = c.in_ok-shown.ensures in (
      made.0,
      made.1,
      λ d at. told_by c.args.self.now _ d c.args.second.now (option_map (λ s. s.now) c.as_ref.result) c.encoding.result c.named.result.now c.held.result.now c.in-Some.checked (map (option_map string_bytes) c.as_slice.result.now)
          (map (option_map string_bytes) c.in_ok-shown.shown.items) made.0 at c.requires c.in-Some.is c.encoding.ensures c.named.ensures c.held.ensures c.as_ref.ensures.value (ap (map (option_map string_bytes)) c.as_slice.ensures.value) refl made.2,
    )
