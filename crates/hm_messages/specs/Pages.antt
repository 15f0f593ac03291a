-- Sources with the names of their files.
use Rattle.std.specs.Prelude.{◌≡◌, ℕ, ◌<◌, List, [], codes, length, map, slice_index_or}
use Rattle.std.specs.List.{flat_map}
use Rattle.hm_messages.specs.ModuleStarts.{Start}
use Rattle.hm_messages.specs.declared.pages.Page.{Page}

-- a source without a name is standard input
abbrev pub file_at : List (List ℕ) → ℕ → List ℕ
file_at names k = slice_index_or names k (codes "<stdin>")

-- one name for each source, by their numbers
pub record AreFilesOf (names sources files : List (List ℕ)) : Type 0 where
  pub one_each : length files ≡ length sources
  pub named : (k : ℕ) → k < length files → slice_index_or files k [] ≡ file_at names k

abbrev pub files_in : List Page → List (List ℕ)
files_in pages = map (λ p. p.file.now) pages

abbrev pub texts_in : List Page → List (List ℕ)
texts_in pages = map (λ p. p.lines) pages

-- the modules of all pages, in order
abbrev pub starts_in : List Page → List Start
starts_in pages = flat_map (λ p. p.modules.starts) pages
