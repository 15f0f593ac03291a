-- The parameters of messages (Language Server Protocol 3.17, `Position`, `Range`, `TextDocumentContentChangeEvent`).
use Rattle.std.specs.Prelude.{◌≡◌, ℕ, List, [], ◌∷◌, ◌++◌, Option, None, Some, codes, min, option_and_then, option_map, option_to_list}
use Rattle.serde_json.specs.Data.{Data, Items, no_items, item}
use Rattle.serde_json.specs.Find.{as_array, as_number, as_str, as_u64, get, pointer}
use Rattle.hm_lsp_positions.specs.declared.changes.Change.{Change}
use Rattle.hm_lsp_positions.specs.declared.changes.Range.{Range}
use Rattle.hm_lsp_positions.specs.declared.positions.Position.{Position}

-- the string at a path
abbrev pub string_at : List ℕ → Data → Option (List ℕ)
string_at path params = option_and_then as_str (pointer path params)

-- the number under a key is this line or column. One above the largest `uinteger` is that number
pub record IsNumberUnder (key : List ℕ) (d : Data) (n : ℕ) : Type 0 where
  pub given : ℕ
  pub found : option_and_then as_u64 (option_and_then as_number (get key d)) ≡ Some given
  pub most : n ≡ min given 2147483647

pub record IsPositionIn (d : Data) (p : Position) : Type 0 where
  pub line : IsNumberUnder (codes "line") d p.line
  pub column : IsNumberUnder (codes "character") d p.column

pub record IsRangeIn (d : Data) (r : Range) : Type 0 where
  pub start : Data
  pub end : Data
  pub starts : get (codes "start") d ≡ Some start
  pub ends : get (codes "end") d ≡ Some end
  pub from : IsPositionIn start r.start
  pub to : IsPositionIn end r.end

abbrev pub IsRangeGiven : Option Data → Option Range → Type 0
IsRangeGiven None None = Unit {0}
IsRangeGiven None (Some r) = ⊥
IsRangeGiven (Some d) None = ⊥
IsRangeGiven (Some d) (Some r) = IsRangeIn d r

-- a change without a range is the whole text
pub record IsChangeIn (d : Data) (change : Change) : Type 0 where
  pub text : string_at (codes "/text") d ≡ Some change.text.items
  pub range : IsRangeGiven (get (codes "range") d) change.range

-- these changes and no others, in order
abbrev pub AreChangesIn : Items → List Change → Type 0
AreChangesIn no_items [] = Unit {0}
AreChangesIn no_items (change ∷ changes) = ⊥
AreChangesIn (item d ds) [] = ⊥
AreChangesIn (item d ds) (change ∷ changes) = IsChangeIn d change × AreChangesIn ds changes

-- the changes of a `didChange`
pub record AreListedIn (params : Data) (changes : List Change) : Type 0 where
  pub list : Data
  pub items : Items
  pub given : get (codes "contentChanges") params ≡ Some list
  pub listed : as_array list ≡ Some items
  pub read : AreChangesIn items changes

-- the URIs of these, in order. One without a URI is left out
abbrev pub uris_in : Items → List (List ℕ)
uris_in no_items = []
uris_in (item d ds) = option_to_list (string_at (codes "/uri") d) ++ uris_in ds

-- the files that a `didChangeWatchedFiles` names, if it has a list of them
abbrev pub changed_files : Data → Option (List (List ℕ))
changed_files params = option_map uris_in (option_and_then as_array (get (codes "changes") params))
