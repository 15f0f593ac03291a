-- Names of sources, with one more at the end.
use Rattle.std.proofs.Common.{◌≡◌, ℕ, ◌+◌, ◌<◌, List, [], ◌∷◌, ◌++◌, Vec, Global, length, take, get_or, map, ap, sym, ◌∙◌}
use Rattle.std.specs.Fmt.{decimal}
use Rattle.std.proofs.lemmas.List.{map_more}
use Rattle.hm_graph_components.proofs.Rows.{lists-push}
use Rattle.hm_service_places.specs.Names.{names_of}

pub names_more : (names : List (Vec ℕ Global)) (numbers : List ℕ) (i : ℕ) (v : Vec ℕ Global) → i < length numbers → map (λ (n : Vec ℕ Global). n.items) names ≡ names_of (take i numbers) → v.items ≡ decimal (get_or numbers i 0)
    → map (λ (n : Vec ℕ Global). n.items) (names ++ v ∷ []) ≡ names_of (take (i + 1) numbers)
names_more names numbers i v within so_far is =
    lists-push names v ∙ (ap (λ (l : List (List ℕ)). l ++ v.items ∷ []) so_far ∙ (ap (λ (x : List ℕ). names_of (take i numbers) ++ x ∷ []) is ∙ sym (map_more decimal numbers i 0 within)))
