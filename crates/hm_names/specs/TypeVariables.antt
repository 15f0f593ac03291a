-- The table of the places of type variables. No public clause names it.
use Rattle.std.specs.Prelude.{ℕ, ◌≡◌, cond, List, Option, Some, None, bytes_eq}
use Rattle.std.specs.declared.hash.FoldHasher.{FoldHasher}
use Rattle.std.specs.declared.hash.BuildHasherDefault.{BuildHasherDefault}
use Rattle.std.specs.Borrow.{Bor}
use Rattle.indexmap.specs.IndexMap.{IndexMap, get_by}
use Rattle.hm_names.specs.Texts.{is_text_among}
use Rattle.hm_names.specs.Types.{place}

abbrev pub PlaceTable : Type 0
PlaceTable = IndexMap (Bor (List ℕ)) ℕ (BuildHasherDefault FoldHasher)

-- the place of a text
abbrev pub place_in : PlaceTable → List ℕ → Option ℕ
place_in table x = get_by (λ k. bytes_eq x k.now) table

-- the table has the first place of each text of the list, and no other text
abbrev pub ArePlaces : List (List ℕ) → PlaceTable → Type 0
ArePlaces xs table = (x : List ℕ) → place_in table x ≡ cond (is_text_among x xs) (Some (place x xs)) None
