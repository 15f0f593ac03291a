-- Elements of rows.
use Rattle.std.proofs.Common.{◌≡◌, ◌∙◌, ℕ, ◌<◌, List, map, length, get_or, subst, sym, ap}
use Rattle.std.proofs.lemmas.List.{get_or-map, length-map}
use Rattle.std.specs.Prelude.{Contains}

-- an element of a row, among the mapped ones
pub at_index : {X Y : Type 0} (f : X → Y) (xs : List X) (i : ℕ) (d : X) → i < length xs → d ≡ get_or xs i d → Contains (map f xs) (f d)
at_index f xs i d within is = (i, subst (λ n. i < n) (sym (length-map xs f)) within, get_or-map f xs i d (f d) within ∙ ap f (sym is))
