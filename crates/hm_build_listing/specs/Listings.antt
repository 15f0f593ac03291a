-- The report of a set as JSON objects (RFC 8259), each on its own line.
use Rattle.std.specs.Prelude.{◌≡◌, ◌<◌, ℕ, List, [], ◌++◌, codes, length, map, slice_index_or, string_bytes}
use Rattle.std.specs.List.{flat_map}
use Rattle.std.specs.List.Sorted.{IsPermutation, IsSortedBy}
use Rattle.serde_json.specs.Data.{Data, string, object, member, no_members}
use Rattle.serde_json.specs.Written.{compact_text}
use Rattle.hm_build_objects.specs.Objects.{count, module_text}
use Rattle.hm_run_sources.specs.Names.{name_below}
use Rattle.hm_verdicts.specs.Reports.{AreBlamed, Block, is_failed, is_published, is_skipped, name_of_module, tally}
use Rattle.hm_verdicts.specs.Sets.{ModuleSet, module_at}
use Rattle.hm_verdicts.specs.Verdicts.{Status, Published, Failed, Skipped}
use Rattle.hm_build_listing.specs.declared.listings.Line.{Line}

-- a source without a name is standard input
abbrev pub file_at : List (List ℕ) → ℕ → List ℕ
file_at names source = slice_index_or names source (codes "<stdin>")

-- the file of a module: that of its source
abbrev pub file_of : List (List ℕ) → List ℕ → ℕ → List ℕ
file_of names origins i = file_at names (slice_index_or origins i 0)

-- the line of module number i with the status in the last argument
abbrev pub IsObjectText : List ℕ → ModuleSet → (ℕ → Status) → ℕ → List ℕ → Status → Type 0
IsObjectText file p status i text (Published f) = text ≡ module_text file (module_at p i) (Published f) []
IsObjectText file p status i text (Failed found) = text ≡ module_text file (module_at p i) (Failed found) []
IsObjectText file p status i text Skipped = (names : List (List ℕ)) × (AreBlamed p status i names × (text ≡ module_text file (module_at p i) Skipped names))

pub record IsLineOf (file : ℕ → List ℕ) (p : ModuleSet) (status : ℕ → Status) (i : ℕ) (b : Block) : Type 0 where
  pub inside : i < length p.modules
  pub name : b.name ≡ name_of_module p i
  pub text : IsObjectText (file i) p status i b.text (status i)

-- the lines of the modules, in the modules' order
pub record AreLinesOf (file : ℕ → List ℕ) (p : ModuleSet) (status : ℕ → Status) (lines : List Block) : Type 0 where
  pub long : length lines ≡ length p.modules
  pub each : (m : ℕ) (d : Block) → m < length lines → IsLineOf file p status m (slice_index_or lines m d)

abbrev pub counts_data : ℕ → ℕ → ℕ → ℕ → Data
counts_data modules good faulty skipped = object (member (codes "faulty") (count faulty)
    (member (codes "good") (count good)
    (member (codes "kind") (string (codes "end"))
    (member (codes "modules") (count modules)
    (member (codes "skipped") (count skipped) no_members)))))

-- the last line, which counts the modules as the report does
abbrev pub end_text : (ℕ → Status) → ℕ → List ℕ
end_text status n = compact_text (counts_data n (tally is_published status n) (tally is_failed status n) (tally is_skipped status n)) ++ codes "\n"

-- a line for each module, ordered by name, and the counts
pub record IsListing (file : ℕ → List ℕ) (p : ModuleSet) (status : ℕ → Status) (text : List ℕ) : Type 0 where
  pub lines : List Block
  pub each : AreLinesOf file p status lines
  pub order : List Block
  pub same : IsPermutation lines order
  pub ordered : IsSortedBy (λ x y. name_below x.name y.name) order
  pub whole : text ≡ flat_map (λ b. b.text) order ++ end_text status (length p.modules)

-- the model of a line
abbrev pub line_block : Line → Block
line_block l = record { name = l.name.now; text = string_bytes l.text }
