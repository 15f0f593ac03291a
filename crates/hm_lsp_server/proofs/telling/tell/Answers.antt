use Rattle.std.proofs.Common.{rules, ◌≡◌, ◌∙◌, ◌∷◌, [], ℕ, List, Option, None, ap, length, map, string_bytes, subst}
use Rattle.std.proofs.lemmas.List.{map-append}
use Rattle.std.specs.Prelude.{option_map, slice_index_or}
use Rattle.serde_json.specs.Data.{Data}
use Rattle.serde_json.specs.View.{view}
use Rattle.hm_lsp_server.specs.Published.{IsTold}
use Rattle.hm_lsp_server.proofs.Told.{all_told, one_more}
use Rattle.hm_lsp_server.proofs.telling.tell.Goals as goal

pub sources-preserved : goal.sources-preserved
sources-preserved c =
    let telling = c.args.telling.now in
    let second = option_map (λ s. s.now) telling.second in
    let P : ℕ → Option (List ℕ) → List Data → Type 0 = λ n. IsTold telling.encoding telling.sources.now telling.held.now telling.checked.now second (slice_index_or (map (option_map string_bytes) c.args.shown.now) n None) n in
    let told = c.in_ok-uri.ensures in
    let shows = option_map string_bytes c.in_ok-uri.uri in
    let here = subst (λ was. IsTold telling.encoding telling.sources.now telling.held.now telling.checked.now second was c.sources.number shows told.0) c.shown_uri.ensures told.2 in
    one_more P c.sources.number (map (option_map string_bytes) c.sources.shows.items) (map (option_map string_bytes) c.push.new.self.items) shows (map view c.args.sent.now.items) (map view c.sources.sent.items) (map view c.tell_one.new.sent.items)
    c.sources.invariant.0 told.0 c.sources.invariant.1 c.sources.invariant.2 told.1 here
    (ap (map (option_map string_bytes)) c.in_ok-push.ensures.items ∙ map-append (option_map string_bytes) c.sources.shows.items (c.in_ok-uri.uri ∷ []))

pub returns : goal.returns
returns c =
    let telling = c.args.telling.now in
    let second = option_map (λ s. s.now) telling.second in
    let P : ℕ → Option (List ℕ) → List Data → Type 0 = λ n. IsTold telling.encoding telling.sources.now telling.held.now telling.checked.now second (slice_index_or (map (option_map string_bytes) c.args.shown.now) n None) n in
    let ends : c.sources.number ≡ length telling.sources.now = search rules in
    (c.sources.invariant.0, c.sources.invariant.1, all_told P c.sources.number (length telling.sources.now) (map (option_map string_bytes) c.sources.shows.items) c.sources.invariant.0 ends c.sources.invariant.2)
