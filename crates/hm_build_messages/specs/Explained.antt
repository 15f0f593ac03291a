-- A run with messages: how its messages relate to its text.
use Rattle.std.specs.Prelude.{◌≡◌, ◌<◌, ◌⊎◌, ℕ, List, [], ◌++◌, Option, length, slice_index_or}
use Rattle.std.specs.Io.KnownBytes.{Appends}
use Rattle.hm_lex.specs.declared.token.Place.{Place}
use Rattle.hm_syntax.specs.declared.ast.Module.{Module}
use Rattle.hm_verdicts.specs.Reports.{IsReport}
use Rattle.hm_verdicts.specs.Sets.{ModuleSet}
use Rattle.hm_verdicts.specs.Verdicts.{Status as Settlement, IsVerdictIn}
use Rattle.hm_messages.specs.Messages.{IsMessage}
use Rattle.hm_messages.specs.Pages.{AreFilesOf}
use Rattle.hm_messages.specs.Refused.{IsRefusalStated}
use Rattle.hm_messages.specs.Subjects.{exhausted}
use Rattle.hm_messages.specs.declared.heading.MessageFormat.{MessageFormat}
use Rattle.hm_run_sources.specs.Origins.{IsSpelledBy}
use Rattle.hm_run_sources.specs.Refusals.{Refusal, refusal_text}
use Rattle.hm_run_sources.specs.Runs.{IsRefusalOf}
use Rattle.hm_run_io.specs.Sources.{WritesPrefix}
use Rattle.hm_run_sources.specs.SourceModules.{AreModulesOf}
use Rattle.hm_run_sources.specs.declared.status.Status.{Status}
use Rattle.hm_run_sources.specs.declared.status.Status.TheVariants.{Good, Faulty, Refused}
use Rattle.hm_store.specs.Builds.{Build, set_of}
use Rattle.hm_store.specs.Settlements.{settlement}
use Rattle.hm_build_messages.specs.Explanations.{IsSetStated}

-- the messages of a build of these sources with these names
pub record AreMessagesOf (format : MessageFormat) (names sources : List (List ℕ)) (b : Build) (messages : List ℕ) : Type 0 where
  pub files : List (List ℕ)
  pub named : AreFilesOf names sources files
  pub stated : IsSetStated format files sources (set_of b) (settlement b) messages

-- the messages report the verdicts of the modules of the sources, and the text begins with the report of these verdicts
pub record StatesReport (format : MessageFormat) (names sources : List (List ℕ)) (text messages : List ℕ) : Type 0 where
  pub set : ModuleSet
  pub settled : ℕ → Settlement
  pub read : AreModulesOf sources set.modules
  pub report : List ℕ
  pub rest : List ℕ
  pub verdicts : (i : ℕ) → i < length set.modules → IsVerdictIn set i (settled i)
  pub reported : IsReport set settled report
  pub whole : text ≡ report ++ rest
  pub files : List (List ℕ)
  pub named : AreFilesOf names sources files
  pub stated : IsSetStated format files sources set settled messages

-- the messages say why the sources are refused: for this reason
pub record StatesRefusal (format : MessageFormat) (names sources : List (List ℕ)) (refusal : Refusal) (messages : List ℕ) : Type 0 where
  pub because : IsRefusalOf sources refusal
  pub files : List (List ℕ)
  pub named : AreFilesOf names sources files
  pub stated : IsRefusalStated format files sources refusal messages

-- the message says that there is no memory to check one of the modules of the sources, by its name, at a place in the source that spells it
pub record StatesExhaustion (format : MessageFormat) (names sources : List (List ℕ)) (message : List ℕ) : Type 0 where
  pub modules : List Module
  pub read : AreModulesOf sources modules
  pub number : ℕ
  pub within : number < length modules
  pub source : ℕ
  pub spelled : IsSpelledBy sources number source
  pub files : List (List ℕ)
  pub named : AreFilesOf names sources files
  pub name : List ℕ
  pub called : (d : Module) → name ≡ (slice_index_or modules number d).header.name.text
  pub place : Place
  pub stated : IsMessage format (slice_index_or files source []) (slice_index_or sources source []) place (exhausted name) message

-- the messages of a run with this status and this text. Those of a refused set are about the refusal that the text says. The names are those of the sources' files
abbrev pub IsExplained : MessageFormat → List (List ℕ) → List (List ℕ) → Status → List ℕ → List ℕ → Type 0
IsExplained format names sources Good text messages = StatesReport format names sources text messages
IsExplained format names sources Faulty text messages = StatesReport format names sources text messages
IsExplained format names sources Refused text messages = (refusal : Refusal) × (text ≡ refusal_text refusal) × StatesRefusal format names sources refusal messages

-- these messages were written, or a prefix of them if their writer failed
abbrev pub IsStatedTo : Option (List ℕ) → Option (List ℕ) → List ℕ → Type 0 → Type 0
IsStatedTo old new messages failed = Appends old new messages ⊎ (WritesPrefix old new messages × failed)
