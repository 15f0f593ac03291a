-- The names of sources (RFC 3986, section 2.1): URIs without escapes. Two URIs of one document differ at most in what they escape.
use Rattle.std.specs.Prelude.{◌≡◌, ◌<◌, ℕ, Bool, false, not, true, List, Option, None, Some, get_or, length, take}
use Rattle.std.specs.List.{list_all}
use Rattle.std.specs.Str.{bytes_eq}
use Rattle.hm_lsp_sources.specs.declared.source.Source.{Source}

-- the source has another name
abbrev pub is_other : List ℕ → Source → Bool
is_other name s = not (bytes_eq s.name.items name)

-- the number of the first source with this name
abbrev pub IsNumberOf : List Source → List ℕ → Option ℕ → Type 0
IsNumberOf sources name None = list_all (is_other name) sources ≡ true
IsNumberOf sources name (Some n) = (n < length sources) × (list_all (is_other name) (take n sources) ≡ true) × ((s : Source) → is_other name (get_or sources n s) ≡ false)
