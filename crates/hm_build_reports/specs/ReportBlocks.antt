-- The parts of a report, for the crate's own functions.
use Rattle.std.specs.Prelude.{◌≡◌, ℕ, ◌<◌, List, [], ◌∷◌, length, slice_index_or, string_bytes}
use Rattle.std.specs.List.{flat_map}
use Rattle.hm_syntax.specs.declared.ast.Module.{Module}
use Rattle.hm_verdicts.specs.Reports.{Block, IsBlockOf}
use Rattle.hm_verdicts.specs.Sets.{ModuleSet, no_module}
use Rattle.hm_verdicts.specs.Verdicts.{Status, Published, Failed, Skipped}
use Rattle.hm_build_reports.specs.declared.reports.ReportBlock.{ReportBlock}

-- the model of a block
abbrev pub report_block_of : ReportBlock → Block
report_block_of b = record { name = b.name.now; text = string_bytes b.text }

-- the blocks of the modules, in the modules' order
pub record AreBlocksOf (p : ModuleSet) (status : ℕ → Status) (blocks : List Block) : Type 0 where
  pub long : length blocks ≡ length p.modules
  pub each : (m : ℕ) (d : Block) → m < length blocks → IsBlockOf p status m (slice_index_or blocks m d)

-- the name of a module, if it isn't published
abbrev pub blamed : Status → List ℕ → List (List ℕ)
blamed (Published f) x = []
blamed (Failed found) x = x ∷ []
blamed Skipped x = x ∷ []

-- the names of the modules of a row that aren't published
abbrev pub all_blamed : List Module → (ℕ → Status) → List ℕ → List (List ℕ)
all_blamed modules status row = flat_map (λ j. blamed (status j) (slice_index_or modules j no_module).header.name.text) row
