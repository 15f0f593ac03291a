-- The URIs of files, and texts, one after another.
use Rattle.std.proofs.Common.{◌≡◌, ◌∙◌, ◌+◌, ◌<◌, ◌++◌, ◌∷◌, [], ℕ, List, ap, append_assoc, get_or, length, sym, take}
use Rattle.std.proofs.lemmas.List.{append-nil, take_more}
use Rattle.std.specs.Prelude.{codes, option_to_list}
use Rattle.serde_json.specs.Find.{as_str}
use Rattle.serde_json.specs.View.{items_view, view}
use Rattle.serde_json.specs.declared.value.Value.{Value}
use Rattle.hm_lsp_session.specs.Folders.{texts_in}
use Rattle.hm_lsp_session.specs.Params.{string_at, uris_in}

uris_behind : (vs : List Value) (v : Value) → uris_in (items_view (vs ++ v ∷ [])) ≡ uris_in (items_view vs) ++ option_to_list (string_at (codes "/uri") (view v))
uris_behind [] v = append-nil (option_to_list (string_at (codes "/uri") (view v)))
uris_behind (w ∷ vs) v =
    ap (λ (l : List (List ℕ)). option_to_list (string_at (codes "/uri") (view w)) ++ l) (uris_behind vs v)
    ∙ sym (append_assoc (option_to_list (string_at (codes "/uri") (view w))) (uris_in (items_view vs)) (option_to_list (string_at (codes "/uri") (view v))))

texts_behind : (vs : List Value) (v : Value) → texts_in (items_view (vs ++ v ∷ [])) ≡ texts_in (items_view vs) ++ option_to_list (as_str (view v))
texts_behind [] v = append-nil (option_to_list (as_str (view v)))
texts_behind (w ∷ vs) v =
    ap (λ (l : List (List ℕ)). option_to_list (as_str (view w)) ++ l) (texts_behind vs v) ∙ sym (append_assoc (option_to_list (as_str (view w))) (texts_in (items_view vs)) (option_to_list (as_str (view v))))

-- the step of a loop
pub texts_more : (vs : List Value) (i : ℕ) (v : Value) → i < length vs → v ≡ get_or vs i v → texts_in (items_view (take (i + 1) vs)) ≡ texts_in (items_view (take i vs)) ++ option_to_list (as_str (view v))
texts_more vs i v low at = ap (λ (l : List Value). texts_in (items_view l)) (take_more vs i v low ∙ ap (λ x. take i vs ++ x ∷ []) (sym at)) ∙ texts_behind (take i vs) v

-- the step of a loop
pub uris_more : (vs : List Value) (i : ℕ) (v : Value) → i < length vs → v ≡ get_or vs i v → uris_in (items_view (take (i + 1) vs)) ≡ uris_in (items_view (take i vs)) ++ option_to_list (string_at (codes "/uri") (view v))
uris_more vs i v low at = ap (λ (l : List Value). uris_in (items_view l)) (take_more vs i v low ∙ ap (λ x. take i vs ++ x ∷ []) (sym at)) ∙ uris_behind (take i vs) v
