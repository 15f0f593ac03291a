-- Worked examples of the listing of a set, and of the object of a refused one.
use Rattle.std.specs.Prelude.{◌≡◌, ℕ, List, [], codes}
use Rattle.serde_json.specs.Data.{null, string}
use Rattle.hm_graph.specs.declared.faults.PlanFault.TheVariants.{Cycle, Missing}
use Rattle.hm_verdicts.specs.Sets.{ModuleSet}
use Rattle.hm_verdicts.specs.Verdicts.{Status}
use Rattle.hm_build_listing.specs.Listings.{IsListing, end_text}
use Rattle.hm_build_listing.specs.Refusals.{refusal_data, refused_data}
use Rattle.hm_run_sources.specs.Refusals.{plan}

-- a set without modules
abbrev pub no_modules : ModuleSet
no_modules = record { modules = []; plan = [] }

-- its listing is the line of the counts, and never empty
pub record NothingRow : Type 0 where
  pub counts : (file : ℕ → List ℕ) (status : ℕ → Status) → IsListing file no_modules status (end_text status 0)
  pub not_empty : (file : ℕ → List ℕ) (status : ℕ → Status) → ¬ (IsListing file no_modules status [])

-- module A imports B, which isn't there. The object names both, and it isn't that of a cycle of A
pub record MissingRow : Type 0 where
  pub missing : refusal_data (plan (Missing 0 0) (codes "A") (codes "B")) ≡ refused_data (codes "missing") null null (string (codes "A")) (string (codes "B"))
  pub no_cycle : ¬ (refusal_data (plan (Missing 0 0) (codes "A") (codes "B")) ≡ refusal_data (plan (Cycle 0) (codes "A") (codes "B")))
