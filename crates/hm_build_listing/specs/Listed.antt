-- The listing of a run: how it relates to the text of its report.
use Rattle.std.specs.Prelude.{◌≡◌, ◌<◌, ℕ, List, ◌++◌, length}
use Rattle.hm_run_sources.specs.Origins.{HaveOrigins}
use Rattle.hm_run_sources.specs.Refusals.{Refusal, refusal_text}
use Rattle.hm_run_sources.specs.Runs.{IsRefusalOf}
use Rattle.hm_run_sources.specs.SourceModules.{AreModulesOf}
use Rattle.hm_run_sources.specs.declared.status.Status.{Status}
use Rattle.hm_run_sources.specs.declared.status.Status.TheVariants.{Good, Faulty, Refused}
use Rattle.hm_verdicts.specs.Reports.{IsReport}
use Rattle.hm_verdicts.specs.Sets.{ModuleSet}
use Rattle.hm_verdicts.specs.Verdicts.{Status as Settlement, IsVerdictIn}
use Rattle.hm_build_listing.specs.Listings.{IsListing, file_of}
use Rattle.hm_build_listing.specs.Refusals.{refusal_object_text}

-- the listing has the verdicts of the modules of the sources, each with the file of its source, and the text begins with the report of these verdicts
pub record ListsReport (names sources : List (List ℕ)) (text listing : List ℕ) : Type 0 where
  pub set : ModuleSet
  pub settled : ℕ → Settlement
  pub read : AreModulesOf sources set.modules
  pub report : List ℕ
  pub behind : List ℕ
  pub verdicts : (i : ℕ) → i < length set.modules → IsVerdictIn set i (settled i)
  pub reported : IsReport set settled report
  pub whole : text ≡ report ++ behind
  pub origins : List ℕ
  pub sourced : HaveOrigins sources (length set.modules) origins
  pub listed : IsListing (file_of names origins) set settled listing

-- the listing of a run with this status and this text. The names are those of the sources' files
abbrev pub IsListed : List (List ℕ) → List (List ℕ) → Status → List ℕ → List ℕ → Type 0
IsListed names sources Good text listing = ListsReport names sources text listing
IsListed names sources Faulty text listing = ListsReport names sources text listing
IsListed names sources Refused text listing = (refusal : Refusal) × (text ≡ refusal_text refusal) × IsRefusalOf sources refusal × (listing ≡ refusal_object_text refusal)
