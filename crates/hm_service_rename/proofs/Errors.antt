-- The sources of errors, one diagnostic more.
use Rattle.std.proofs.Common.{◌≡◌, ◌∙◌, ℕ, ◌+◌, ◌<◌, List, [], ◌++◌, length, take, get_or, sym, ap}
use Rattle.std.specs.List.{flat_map}
use Rattle.std.proofs.lemmas.List.{flat_map_more, take_more}
use Rattle.hm_service_messages.specs.declared.diagnostic.Diagnostic.{Diagnostic}
use Rattle.hm_service_rename.specs.Sets.{error_source}

pub errors_more : (ds : List Diagnostic) (i : ℕ) (d : Diagnostic) (before next : List ℕ) → i < length ds → before ≡ flat_map error_source (take i ds)
    → next ≡ before ++ error_source (get_or ds i d) → next ≡ flat_map error_source (take (i + 1) ds)
errors_more ds i d before next within e more =
    more
    ∙ (ap (λ (l : List ℕ). l ++ error_source (get_or ds i d)) e
    ∙ (flat_map_more error_source [] (take i ds) (get_or ds i d) ∙ sym (ap (flat_map error_source) (take_more ds i d within))))
