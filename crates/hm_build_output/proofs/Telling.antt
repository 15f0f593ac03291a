-- What is written of a run, and what its messages say.
use Rattle.std.proofs.Common.{◌≡◌, ◌⊎◌, ℕ, Bool, false, true, List, [], ◌++◌, inl, inr, ⊎_elim, refl, sym, subst, ◌∙◌, append-nil}
use Rattle.std.specs.Prelude.{Option, Some, None, IfNone, IfSome, Result, Ok, Err, OnErr, OnOk, map}
use Rattle.std.specs.Io.KnownBytes.{Appends}
use Rattle.hm_run_sources.specs.Refusals.{Refusal, refusal_text}
use Rattle.hm_run_sources.specs.Runs.{IsRefusalOf, IsRefused}
use Rattle.hm_run_io.specs.Sources.{WritesPrefix}
use Rattle.hm_run_sources.specs.declared.status.Status.{Status}
use Rattle.hm_run_sources.specs.declared.status.Status.TheVariants.{Good, Faulty, Refused}
use Rattle.hm_messages.specs.declared.heading.MessageFormat.{MessageFormat}
use Rattle.hm_store.proofs.Settling.{settled_build}
use Rattle.hm_store.specs.Builds.{Build, set_of}
use Rattle.hm_verdicts.proofs.Composition.{settled_verdict}
use Rattle.hm_store.specs.Settlements.{settlement}
use Rattle.hm_store.specs.declared.record.Record.{Record}
use Rattle.hm_build_output.specs.BuildTexts.{HasReport, IsFollowedBy}
use Rattle.hm_build_messages.specs.Explained.{AreMessagesOf, IsExplained, IsStatedTo, StatesRefusal, StatesReport}
use Rattle.hm_build_reports.specs.FinishedBuilds.{IsFinished}
use Rattle.hm_build_output.specs.JournalledRuns.{IsRun}
use Rattle.hm_build_output.specs.Outputs.{AreMessagesFor, IsWrittenAs}
use Rattle.hm_build_messages.specs.declared.options.MessageOptions.{MessageOptions}
use Rattle.hm_build_reports.specs.Journals.{journal_text}
use Rattle.std.specs.Prelude.{string_bytes}
use Rattle.std.specs.Global.{Global, Vec}
use Rattle.std.specs.declared.string.String.{String}
use Rattle.hm_run_sources.specs.ModuleCounts.{AreCountedModules, AreOrigins}
use Rattle.hm_run_sources.proofs.ModuleCounts.{have_origins}
use Rattle.hm_build_listing.specs.Listings.{IsListing, file_of}
use Rattle.hm_build_listing.specs.Listed.{IsListed, ListsReport}
use Rattle.hm_build_listing.specs.Refusals.{refusal_object_text}

pub stated_to : {X E : Type 0} (answer : Result X E) (old new : Option (List ℕ)) (messages : List ℕ) (failed : Type 0) → OnOk answer (Appends old new messages) → OnErr answer (WritesPrefix old new messages) → OnErr answer failed → IsStatedTo old new messages failed
stated_to (Ok x) old new messages failed all part cause = inl all
stated_to (Err e) old new messages failed all part cause = inr (part, cause)

follows_is : (b : Build) (journal : Bool) (report text : List ℕ) → IsFollowedBy b journal report text → (behind : List ℕ) × (text ≡ report ++ behind)
follows_is b false report text h = ([], h ∙ sym (append-nil report))
follows_is b true report text h = (journal_text b, h)

-- the messages of a finished build tell its report
pub tells : (format : MessageFormat) (names sources : List (List ℕ)) (b : Build) (records : List Record) (workers : ℕ) (journal : Bool) (status : Status) (text messages : List ℕ) → HasReport b journal text → (status ≡ Good) ⊎ (status ≡ Faulty)
    → IsFinished sources workers b records → AreMessagesOf format names sources b messages → IsExplained format names sources status text messages
tells format names sources b records workers journal status text messages h either f m =
    let behind = follows_is b journal h.report text h.followed in
    let told : StatesReport format names sources text messages = record {
      set = set_of b;
      settled = settlement b;
      read = f.read;
      report = h.report;
      rest = behind.0;
      verdicts = λ i l. settled_verdict (set_of b) f.legal.lawful (settlement b) (settled_build b f.legal f.settled) i l;
      reported = h.reported;
      whole = behind.1;
      files = m.files;
      named = m.named;
      stated = m.stated;
    } in
    ⊎_elim (λ e. subst (λ s. IsExplained format names sources s text messages) (sym e) told) (λ e. subst (λ s. IsExplained format names sources s text messages) (sym e) told) either

-- and so if messages are requested
pub all_told : (wanted : Option MessageOptions) (sources : List (List ℕ)) (b : Build) (records : List Record) (workers : ℕ) (journal : Bool) (status : Status) (text messages : List ℕ) → HasReport b journal text → (status ≡ Good) ⊎ (status ≡ Faulty)
    → IsFinished sources workers b records → IfSome wanted (λ o. AreMessagesOf o.format (map (λ s. s.items) o.names.items) sources b messages) → IfNone wanted (messages ≡ [])
    → AreMessagesFor wanted sources status text messages
all_told None sources b records workers journal status text messages h either f m none = none
all_told (Some o) sources b records workers journal status text messages h either f m none = tells o.format (map (λ s. s.items) o.names.items) sources b records workers journal status text messages h either f m

-- what is written of a refusal is a run
pub refused_run : (workers : ℕ) (journal : Bool) (sources : List (List ℕ)) (refusal : Refusal) (status : Status) (text : List ℕ) → IsRefusalOf sources refusal → status ≡ Refused → text ≡ refusal_text refusal → IsRun workers journal sources status text
refused_run workers journal sources refusal status text because is says =
    let refused : IsRefused sources text = record { refusal = refusal; because = because; says = says } in
    let written : IsRun workers journal sources Refused text = record { report = text; checked = refused; written = refl } in
    subst (λ s. IsRun workers journal sources s text) (sym is) written

-- and its messages explain it if they are requested
pub all_refused : (wanted : Option MessageOptions) (sources : List (List ℕ)) (refusal : Refusal) (status : Status) (text messages : List ℕ) → status ≡ Refused → text ≡ refusal_text refusal → IfSome wanted (λ o. StatesRefusal o.format (map (λ s. s.items) o.names.items) sources refusal messages)
    → IfNone wanted (messages ≡ []) → AreMessagesFor wanted sources status text messages
all_refused None sources refusal status text messages is says told none = none
all_refused (Some o) sources refusal status text messages is says told none = subst (λ s. IsExplained o.format (map (λ s. s.items) o.names.items) sources s text messages) (sym is) (refusal, says, told)

-- the listing of a finished build has the verdicts of its report
pub lists : (names sources : List (List ℕ)) (b : Build) (records : List Record) (workers : ℕ) (journal : Bool) (counts : List ℕ) (status : Status) (text listing : List ℕ) → HasReport b journal text → (status ≡ Good) ⊎ (status ≡ Faulty)
    → IsFinished sources workers b records → AreCountedModules sources b.modules counts → ((origins : List ℕ) × AreOrigins counts origins × IsListing (file_of names origins) (set_of b) (settlement b) listing) → IsListed names sources status text listing
lists names sources b records workers journal counts status text listing h either f counted l =
    let behind = follows_is b journal h.report text h.followed in
    let listed : ListsReport names sources text listing = record {
      set = set_of b;
      settled = settlement b;
      read = f.read;
      report = h.report;
      behind = behind.0;
      verdicts = λ i k. settled_verdict (set_of b) f.legal.lawful (settlement b) (settled_build b f.legal f.settled) i k;
      reported = h.reported;
      whole = behind.1;
      origins = l.0;
      sourced = have_origins sources b.modules counts l.0 counted l.1;
      listed = l.2;
    } in
    ⊎_elim (λ e. subst (λ s. IsListed names sources s text listing) (sym e) listed) (λ e. subst (λ s. IsListed names sources s text listing) (sym e) listed) either

-- and so if it is requested; else the text is written
pub all_listed : (wanted : Option (Vec (String Global))) (sources : List (List ℕ)) (b : Build) (records : List Record) (workers : ℕ) (journal : Bool) (counts : List ℕ) (status : Status) (text listing : List ℕ) → HasReport b journal text → (status ≡ Good) ⊎ (status ≡ Faulty)
    → IsFinished sources workers b records → AreCountedModules sources b.modules counts
    → IfSome wanted (λ names. (origins : List ℕ) × AreOrigins counts origins × IsListing (file_of (map string_bytes names.items) origins) (set_of b) (settlement b) listing)
    → IfNone wanted (listing ≡ text) → IsWrittenAs wanted sources status text listing
all_listed None sources b records workers journal counts status text listing h either f counted l none = none
all_listed (Some names) sources b records workers journal counts status text listing h either f counted l none = lists (map string_bytes names.items) sources b records workers journal counts status text listing h either f counted l

-- the listing of a refused set says its refusal
pub refused_listed : (wanted : Option (Vec (String Global))) (sources : List (List ℕ)) (refusal : Refusal) (status : Status) (text listing : List ℕ) → IsRefusalOf sources refusal → status ≡ Refused → text ≡ refusal_text refusal
    → IfSome wanted (λ names. listing ≡ refusal_object_text refusal) → IfNone wanted (listing ≡ text) → IsWrittenAs wanted sources status text listing
refused_listed None sources refusal status text listing because is says l none = none
refused_listed (Some names) sources refusal status text listing because is says l none = subst (λ s. IsListed (map string_bytes names.items) sources s text listing) (sym is) (refusal, says, because, l)

-- the listing of a build for the names of the options
pub chosen_listing : (wanted : Option (Vec (String Global))) (names : Vec (String Global)) (slice : List (String Global)) (counts : List ℕ) (b : Build) (listing : List ℕ) → wanted ≡ Some names → slice ≡ names.items
    → ((origins : List ℕ) × AreOrigins counts origins × IsListing (file_of (map string_bytes slice) origins) (set_of b) (settlement b) listing)
    → IfSome wanted (λ names. (origins : List ℕ) × AreOrigins counts origins × IsListing (file_of (map string_bytes names.items) origins) (set_of b) (settlement b) listing)
chosen_listing wanted names slice counts b listing is same l =
    subst (λ w. IfSome w (λ names. (origins : List ℕ) × AreOrigins counts origins × IsListing (file_of (map string_bytes names.items) origins) (set_of b) (settlement b) listing)) (sym is)
    (subst (λ (s : List (String Global)). (origins : List ℕ) × AreOrigins counts origins × IsListing (file_of (map string_bytes s) origins) (set_of b) (settlement b) listing) same l)
