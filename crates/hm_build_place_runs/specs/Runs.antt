-- The text of a run for a place: what the name there means, for the verdicts of the sources' modules.
use Rattle.std.specs.Prelude.{◌≡◌, ℕ, ◌<◌, List, length}
use Rattle.hm_run_sources.specs.Origins.{HaveOrigins}
use Rattle.hm_run_sources.specs.Runs.{IsRefused}
use Rattle.hm_run_sources.specs.SourceModules.{AreModulesOf}
use Rattle.hm_run_sources.specs.declared.status.Status.{Status}
use Rattle.hm_run_sources.specs.declared.status.Status.TheVariants.{Good, Faulty, Refused}
use Rattle.hm_verdicts.specs.Sets.{ModuleSet}
use Rattle.hm_verdicts.specs.Verdicts.{Status as Settlement, IsVerdictIn}
use Rattle.hm_build_place_texts.specs.Formats.{refusal_in}
use Rattle.hm_build_place_texts.specs.declared.texts.PlaceFormat.{PlaceFormat}
use Rattle.hm_build_places.specs.Answers.{IsPlaceAnswer}

-- a line and a column of a source, which is number `source` from 0. The column counts characters. The format is that of the text
pub record AskedAt : Type 0 where
  pub source : ℕ
  pub line : ℕ
  pub column : ℕ
  pub format : PlaceFormat

-- the modules of these sources with their verdicts, and the source of each module
pub record AreJudged (sources : List (List ℕ)) (set : ModuleSet) (settled : ℕ → Settlement) (origins : List ℕ) : Type 0 where
  pub read : AreModulesOf sources set.modules
  pub verdicts : (i : ℕ) → i < length set.modules → IsVerdictIn set i (settled i)
  pub sourced : HaveOrigins sources (length set.modules) origins

-- the status and the text for a place of sources whose modules were checked
pub record IsAnswered (names sources : List (List ℕ)) (asked : AskedAt) (status : Status) (text : List ℕ) : Type 0 where
  pub set : ModuleSet
  pub settled : ℕ → Settlement
  pub origins : List ℕ
  pub judged : AreJudged sources set settled origins
  pub answered : IsPlaceAnswer (record { set = set; status = settled; files = names; texts = sources; origins = origins }) asked.format asked.source asked.line asked.column status text

-- the text of a refusal in this format
pub record IsRefusedIn (format : PlaceFormat) (sources : List (List ℕ)) (text : List ℕ) : Type 0 where
  pub told : List ℕ
  pub refused : IsRefused sources told
  pub written : text ≡ refusal_in format told

-- the status and the text of a run on these sources: what is at the place, that nothing is there, or why the sources are refused
abbrev pub IsPlaceRun : List (List ℕ) → List (List ℕ) → AskedAt → Status → List ℕ → Type 0
IsPlaceRun names sources asked Good text = IsAnswered names sources asked Good text
IsPlaceRun names sources asked Faulty text = IsAnswered names sources asked Faulty text
IsPlaceRun names sources asked Refused text = IsRefusedIn asked.format sources text
