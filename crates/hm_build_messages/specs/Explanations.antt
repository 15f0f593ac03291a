-- The messages of a build: what is said of the faulty modules, in the order of the report, and after it what is said of the skipped ones.
use Rattle.std.specs.Prelude.{◌≡◌, ◌⊎◌, Bool, false, true, ℕ, zero, suc, ◌+◌, ◌-◌, ◌^◌, ◌<◌, All, Contains, List, [], ◌∷◌, ◌++◌, None, cond, filter, length, map, min, slice_index_or, take}
use Rattle.std.specs.List.Sorted.{IsPermutation, IsSortedBy}
use Rattle.hm_messages_details.specs.Details.{IsKnown, Known, nothing}
use Rattle.hm_lex.specs.declared.token.Place.{Place}
use Rattle.hm_syntax.specs.declared.ast.Import.{Import}
use Rattle.hm_syntax.specs.declared.ast.Module.{Module}
use Rattle.hm_types.specs.Interfaces.{Exports as Interface}
use Rattle.hm_types.specs.StandardPrelude.{prelude_interface}
use Rattle.hm_names.specs.declared.faults.Fault.{Fault}
use Rattle.hm_names.specs.declared.faults.Kind.TheVariants.{Untyped}
use Rattle.hm_verdicts.specs.ModuleVerdicts.{Verdict}
use Rattle.hm_verdicts.specs.Reports.{AreBlamed, is_skipped, tally}
use Rattle.hm_verdicts.specs.Sets.{ModuleSet, imports_of, module_at, no_module}
use Rattle.hm_verdicts.specs.Verdicts.{ArePublished, Status, Published, Failed, Skipped}
use Rattle.hm_messages_excerpts.specs.Columns.{AreColumnsAt}
use Rattle.hm_messages_excerpts.specs.declared.columns.Columns.{Columns}
use Rattle.hm_messages.specs.Headings.{count_text, further_text}
use Rattle.hm_messages.specs.Messages.{AreEach, IsFaultMessage, IsMessage, reader_place}
use Rattle.hm_messages_json.specs.Edits.{Changed}
use Rattle.hm_messages.specs.Subjects.{Subject, faulty, follows, hidden, limit, mistyped, replaceable, skipped, too_few_arguments, too_many_arguments, unsigned, wrapped}
use Rattle.hm_messages.specs.declared.heading.MessageFormat.{MessageFormat}
use Rattle.hm_messages.specs.declared.heading.MessageFormat.TheVariants.{Plain, Coloured, Json}
use Rattle.hm_messages.specs.declared.topic.Way.{Way}
use Rattle.hm_messages.specs.declared.topic.Way.TheVariants as way
use Rattle.hm_messages_arguments.specs.Counts.{HasOneFewer, HasOneMore}
use Rattle.hm_messages_causes.specs.Causes.{IsCause}
use Rattle.hm_messages_edits.specs.Edits.{HasChanges}
use Rattle.hm_messages_edits.specs.Signatures.{IsRetyped}
use Rattle.hm_messages_edits.specs.Spans.{first_part, second_part}
use Rattle.hm_messages_hidden.specs.Hidden.{IsVerdictBeyond}
use Rattle.hm_messages_trials.specs.Mends.{IsMend}
use Rattle.hm_messages_trials.specs.ShownTypes.{HasShownTypes}
use Rattle.hm_messages_trials.specs.Signatures.{IsUnsigned, Leads}
use Rattle.hm_messages_trials.specs.declared.mends.Mend.{Mend}
use Rattle.hm_messages_trials.specs.declared.mends.Mend.TheVariants.{Expression, Pattern, Exchange, Removal, Sides, Patterns, Insertion as insertion_mend, Wrapped}
use Rattle.hm_messages_changes.specs.declared.insertions.Insertion.{Insertion}
use Rattle.hm_messages_changes.specs.declared.insertions.Insertion.TheVariants.{Brackets, ListBrackets, Argument, Semicolon, Comma}
use Rattle.hm_messages_changes.specs.declared.data.SourceRange.{SourceRange}
use Rattle.hm_run_sources.specs.Names.{name_below}
use Rattle.hm_run_sources.specs.Origins.{IsSpelledBy}
use Rattle.hm_build_messages.specs.Exporters.{AreExporterNotesIn, IsFollowed}
use Rattle.hm_build_messages.specs.Expected.{AreExpectedStatedIn}
use Rattle.hm_build_messages.specs.Jointly.{AreJointNotes}
use Rattle.hm_build_messages.specs.PartMessages.{IsPartMessage}
use Rattle.hm_build_messages.specs.Variables.{AreVariableNotes}
use Rattle.hm_build_messages.specs.declared.explaining.Blame.{Blame}
use Rattle.hm_build_messages.specs.declared.explaining.NumberedName.{NumberedName}

-- the message of a fault, with what is known of it, which is so
pub record IsDetailed (format : MessageFormat) (file source : List ℕ) (IsSo : Fault → Known → Type 0) (f : Fault) (text : List ℕ) : Type 0 where
  pub known : Known
  pub so : IsSo f known
  pub stated : IsFaultMessage format file source f known text

-- what is known of a fault of module number i, if anything is, is so for Prelude and the interfaces of what the module imports
abbrev pub IsKnownIn : ModuleSet → (ℕ → Status) → ℕ → Fault → Known → Type 0
IsKnownIn p status i f known = (known ≡ nothing) ⊎ ((fs : List Interface) × ArePublished status (imports_of p i) fs × IsKnown (module_at p i) (prelude_interface ∷ fs) f known)

-- the other place that is stated: where it ends, or where the second part begins
abbrev pub other_of : Mend → Place
other_of (Expression part) = part.end
other_of (Pattern part) = part.end
other_of (Exchange first second) = second.start
other_of (Removal part) = part.end
other_of (Sides first second) = second.start
other_of (Patterns first second) = second.start
other_of (insertion_mend insertion part) = part.end
other_of (Wrapped constructor part) = part.end

-- how a text is stated that is put in around a part, which ends at this place
abbrev pub insertion_way : Insertion → Place → Way
insertion_way Brackets p = way.Brackets p
insertion_way ListBrackets p = way.ListBrackets p
insertion_way Argument p = way.Argument p
insertion_way Semicolon p = way.Semicolon
insertion_way Comma p = way.Comma

-- how the change of a definition is stated, with this as the other place
abbrev pub subject_of_mend : List ℕ → Mend → Place → Subject
subject_of_mend x (Expression part) p = replaceable x (way.Expression p)
subject_of_mend x (Pattern part) p = replaceable x (way.Pattern p)
subject_of_mend x (Exchange first second) p = replaceable x (way.Exchange p)
subject_of_mend x (Removal part) p = replaceable x (way.Removal p)
subject_of_mend x (Sides first second) p = replaceable x (way.Sides p)
subject_of_mend x (Patterns first second) p = replaceable x (way.Patterns p)
subject_of_mend x (insertion_mend insertion part) p = replaceable x (insertion_way insertion p)
subject_of_mend x (Wrapped constructor part) p = wrapped x constructor.now p

-- a name has so many arguments in the source, and so many with the change: it leaves an argument out, or adds one
abbrev pub AreCounts : List ℕ → Mend → List ℕ → ℕ → ℕ → Type 0
AreCounts source (Expression part) function here then = ⊥
AreCounts source (Pattern part) function here then = ⊥
AreCounts source (Exchange first second) function here then = ⊥
AreCounts source (Removal part) function here then = HasOneFewer source part function here then
AreCounts source (Sides first second) function here then = ⊥
AreCounts source (Patterns first second) function here then = ⊥
AreCounts source (insertion_mend Brackets part) function here then = ⊥
AreCounts source (insertion_mend ListBrackets part) function here then = ⊥
AreCounts source (insertion_mend Argument part) function here then = HasOneMore source part function here then
AreCounts source (insertion_mend Semicolon part) function here then = ⊥
AreCounts source (insertion_mend Comma part) function here then = ⊥
AreCounts source (Wrapped constructor part) function here then = ⊥

-- how the change of a definition is stated, with this as the other place. An argument that is left out, or one more, may be stated with the name that is
-- applied, how many arguments that has, and how many with the change
pub data IsSubjectOf (source definition : List ℕ) : Mend → Place → Subject → Type 0 where
  by_way : {mend : Mend} {p : Place} → IsSubjectOf source definition mend p (subject_of_mend definition mend p)
  too_many : {part : SourceRange} {p : Place} {function : List ℕ} {here then : ℕ} → HasOneFewer source part function here then
      → IsSubjectOf source definition (Removal part) p (too_many_arguments definition function here then p)
  too_few : {part : SourceRange} {p : Place} {function : List ℕ} {here then : ℕ} → HasOneMore source part function here then
      → IsSubjectOf source definition (insertion_mend Argument part) p (too_few_arguments definition function here then p)

-- these are the two types of the part that is to blame, and whether they are stated as infinite
abbrev pub ArePartTypes : List ℕ → List ℕ → List Interface → List ℕ → Mend → List ℕ → List ℕ → Bool → Type 0
ArePartTypes source name fs definition (Expression part) expected actual infinite = HasShownTypes source name fs definition part expected actual infinite
ArePartTypes source name fs definition (Pattern part) expected actual infinite = ⊥
ArePartTypes source name fs definition (Exchange first second) expected actual infinite = ⊥
ArePartTypes source name fs definition (Removal part) expected actual infinite = ⊥
ArePartTypes source name fs definition (Sides first second) expected actual infinite = ⊥
ArePartTypes source name fs definition (Patterns first second) expected actual infinite = ⊥
ArePartTypes source name fs definition (insertion_mend insertion part) expected actual infinite = ⊥
ArePartTypes source name fs definition (Wrapped constructor part) expected actual infinite = ⊥

-- the text states what gives the definition a type, with this as the other place. A program gets its edits
pub record IsMendStated (format : MessageFormat) (file source definition : List ℕ) (mend : Mend) (other : Place) (text : List ℕ) : Type 0 where
  pub changes : List Changed
  pub edits : HasChanges source mend changes
  pub subject : Subject
  pub means : IsSubjectOf source definition mend other subject
  pub stated : IsPartMessage format file source (first_part mend) (second_part mend) subject changes text

-- the text states what gives the definition a type, or the two types of the part, with this as the other place
pub data IsStatedOf (format : MessageFormat) (file source name : List ℕ) (fs : List Interface) (definition : List ℕ) (mend : Mend) (other : Place) (text : List ℕ) : Type 0 where
  by_mend : IsMendStated format file source definition mend other text → IsStatedOf format file source name fs definition mend other text
  by_types : (expected actual : List ℕ) (infinite : Bool) → ArePartTypes source name fs definition mend expected actual infinite
      → IsPartMessage format file source (first_part mend) None (mistyped definition other expected actual infinite) [] text → IsStatedOf format file source name fs definition mend other text

-- the note of a type fault states what gives its definition a type, or the two types of the part, with places as readers count
pub record IsNote (format : MessageFormat) (file source name : List ℕ) (fs : List Interface) (f : Fault) (text : List ℕ) : Type 0 where
  pub untyped : f.kind ≡ Untyped
  pub mend : Mend
  pub mended : IsMend source name fs f.name mend
  pub columns : Columns
  pub columns_at : AreColumnsAt source (other_of mend) columns
  pub stated : IsStatedOf format file source name fs f.name mend (reader_place (other_of mend) columns) text

-- the note of a signature states the type that the definition of a type fault has without it. A program gets the edit that writes this type in its place. If
-- the note leads, the module is good without the signature
pub record IsSignatureNote (format : MessageFormat) (file source name : List ℕ) (fs : List Interface) (f : Fault) (leads : Bool) (text : List ℕ) : Type 0 where
  pub untyped : f.kind ≡ Untyped
  pub signature : SourceRange
  pub own : List ℕ
  pub alone : IsUnsigned source name fs f.name signature own
  pub led : leads ≡ true → Leads source name fs signature
  pub columns : Columns
  pub columns_at : AreColumnsAt source signature.end columns
  pub changes : List Changed
  pub retyped : IsRetyped source f.name signature own changes
  pub stated : IsPartMessage format file source signature None (unsigned f.name (reader_place signature.end columns) own) changes text

-- the note of a type fault that follows from the signature of another definition says that both have types without it
pub record IsCauseNote (format : MessageFormat) (file source name : List ℕ) (fs : List Interface) (f : Fault) (text : List ℕ) : Type 0 where
  pub untyped : f.kind ≡ Untyped
  pub other : List ℕ
  pub signature : SourceRange
  pub cause : IsCause source name fs f.name other signature
  pub columns : Columns
  pub columns_at : AreColumnsAt source signature.end columns
  pub stated : IsPartMessage format file source signature None (follows f.name other (reader_place signature.end columns)) [] text

-- the notes of a type fault by itself: that of its part, that of its signature and those of two parts and of type variables, or some of them, or none. That of the signature is before that of
-- the part if it leads. Those of two parts are next, and only if there is none of one part. Those of type variables that are named like types are last, and
-- only if there is one of the signature: without that the definition has a type
pub record AreOwnNotes (format : MessageFormat) (file source name : List ℕ) (fs : List Interface) (f : Fault) (text : List ℕ) : Type 0 where
  pub note : List ℕ
  pub signed : List ℕ
  pub both : List ℕ
  pub variables : List ℕ
  pub leads : Bool
  pub noted : (note ≡ []) ⊎ IsNote format file source name fs f note
  pub signature : (signed ≡ []) ⊎ IsSignatureNote format file source name fs f leads signed
  pub jointly : (both ≡ []) ⊎ ((note ≡ []) × AreJointNotes format file source name fs f both)
  pub alike : (variables ≡ []) ⊎ ((¬ (signed ≡ [])) × AreVariableNotes format file source name fs f.name variables)
  pub whole : text ≡ (cond leads (signed ++ note) (note ++ signed) ++ both) ++ variables

-- the notes of a type fault: that of another definition's signature from which it follows, or else its own
pub data AreNotes (format : MessageFormat) (file source name : List ℕ) (fs : List Interface) (f : Fault) (text : List ℕ) : Type 0 where
  following : IsCauseNote format file source name fs f text → AreNotes format file source name fs f text
  own_notes : AreOwnNotes format file source name fs f text → AreNotes format file source name fs f text

-- the last note of a fault says that the limit on trials is reached, or it is no text. The first truth value says whether a note has said it before the fault,
-- the second whether one has said it after the fault. So it is said once
abbrev pub IsLimitNote : MessageFormat → List ℕ → List ℕ → Fault → Bool → Bool → List ℕ → Type 0
IsLimitNote format file source f false true text = IsMessage format file source f.place limit text
IsLimitNote format file source f false false text = text ≡ []
IsLimitNote format file source f true true text = text ≡ []
IsLimitNote format file source f true false text = ⊥

-- the message of a fault of which nothing else is known, and after it its notes, or nothing. A last note may tell that the limit on trials is reached.
-- After such a note no fault has notes
pub record IsNoted (format : MessageFormat) (file source name : List ℕ) (fs : List Interface) (f : Fault) (before after : Bool) (text : List ℕ) : Type 0 where
  pub message : List ℕ
  pub notes : List ℕ
  pub says : IsFaultMessage format file source f nothing message
  pub noted : (notes ≡ []) ⊎ AreNotes format file source name fs f notes
  pub silent : before ≡ true → notes ≡ []
  pub last : List ℕ
  pub limited : IsLimitNote format file source f before after last
  pub whole : text ≡ (message ++ notes) ++ last

-- the same of module number i: the note speaks of it for the interfaces of what it imports
abbrev pub IsNotedIn : MessageFormat → List ℕ → List ℕ → ModuleSet → (ℕ → Status) → ℕ → Fault → Bool → Bool → List ℕ → Type 0
IsNotedIn format file source p status i f before after text =
    (fs : List Interface) × ArePublished status (imports_of p i) fs × IsNoted format file source (module_at p i).header.name.text fs f before after text

-- what is said of a fault of module number i: a message with what is known, and the notes of modules that have its name, or a message with a note. The truth
-- values say whether the limit was stated before the fault, and whether it was said after it. Where it was stated before there are no notes
abbrev pub IsFaultStated : MessageFormat → List ℕ → List ℕ → List (List ℕ) → List (List ℕ) → ModuleSet → (ℕ → Status) → ℕ → Fault → Bool → Bool → List ℕ → Type 0
IsFaultStated format file source files texts p status i f before after text =
    ((after ≡ before) × IsFollowed (IsDetailed format file source (IsKnownIn p status i)) (AreExporterNotesIn format file source files texts p status i) before f text)
    ⊎ IsNotedIn format file source p status i f before after text

-- the text has a part for each element, in order, and no more. The truth value between two parts is the second of the one and the first of the other
abbrev pub AreInTurn : {X : Type 0} → (X → Bool → Bool → List ℕ → Type 0) → List X → Bool → Bool → List ℕ → Type 0
AreInTurn says [] before after text = (after ≡ before) × (text ≡ [])
AreInTurn says (x ∷ xs) before after text =
    (first : List ℕ) × (later : List ℕ) × (between : Bool) × says x before between first × AreInTurn says xs between after later × (text ≡ first ++ later)

-- of each fault, in order, at its place of this source
abbrev pub AreFaultsStated : MessageFormat → List (List ℕ) → List (List ℕ) → ℕ → ModuleSet → (ℕ → Status) → ℕ → List Fault → Bool → Bool → List ℕ → Type 0
AreFaultsStated format files texts source p status i found before after text =
    AreInTurn (IsFaultStated format (slice_index_or files source []) (slice_index_or texts source []) files texts p status i) found before after text

-- the note of a fault that the report leaves out, at its place
abbrev pub IsHiddenNote : MessageFormat → List ℕ → List ℕ → Fault → List ℕ → Type 0
IsHiddenNote format file source f text = IsMessage format file source f.place (hidden f.kind f.name) text

-- a note for each fault of a verdict, in order
abbrev pub AreHiddenNotes : MessageFormat → List ℕ → List ℕ → Verdict → List ℕ → Type 0
AreHiddenNotes format file source (Verdict.Good f) text = text ≡ []
AreHiddenNotes format file source (Verdict.Faulty found) text = AreEach (IsHiddenNote format file source) found text

-- the notes of all faults that the module has with definitions of names that aren't in scope
pub record AreHiddenStated (format : MessageFormat) (file source name : List ℕ) (fs : List Interface) (faults : List Fault) (text : List ℕ) : Type 0 where
  pub verdict : Verdict
  pub beyond : IsVerdictBeyond source name fs faults verdict
  pub stated : AreHiddenNotes format file source verdict text

-- the same of module number i: the notes speak of it for the interfaces of what it imports
abbrev pub AreHiddenStatedIn : MessageFormat → List ℕ → List ℕ → ModuleSet → (ℕ → Status) → ℕ → List Fault → List ℕ → Type 0
AreHiddenStatedIn format file source p status i faults text =
    (fs : List Interface) × ArePublished status (imports_of p i) fs × AreHiddenStated format file source (module_at p i).header.name.text fs faults text

-- what is said of a faulty module: a message for each of its faults, and after them the notes of the types that are expected of names, and of the faults that the report leaves
-- out, or nothing. Where the limit was stated there are no such notes
pub record IsFaultyStated (format : MessageFormat) (files texts : List (List ℕ)) (source : ℕ) (p : ModuleSet) (status : ℕ → Status) (i : ℕ) (faults : List Fault) (before after : Bool) (text : List ℕ) : Type 0 where
  pub messages : List ℕ
  pub types : List ℕ
  pub notes : List ℕ
  pub stated : AreFaultsStated format files texts source p status i faults before after messages
  pub expected : (types ≡ []) ⊎ AreExpectedStatedIn format (slice_index_or files source []) (slice_index_or texts source []) p status i faults types
  pub beyond : (notes ≡ []) ⊎ AreHiddenStatedIn format (slice_index_or files source []) (slice_index_or texts source []) p status i faults notes
  pub silent : after ≡ true → types ++ notes ≡ []
  pub whole : text ≡ messages ++ (types ++ notes)

-- an import that a module is skipped for: what it names, the place of the name, and what is said of it
pub record Blamed : Type 0 where
  pub name : List ℕ
  pub place : Place
  pub subject : Subject

-- what is said of an import by the status of the module that it names
abbrev pub IsStatedBy : Status → List ℕ → Subject → Type 0
IsStatedBy (Published f) x s = ⊥
IsStatedBy (Failed found) x s = s ≡ faulty x
IsStatedBy Skipped x s = s ≡ skipped x

-- one of the imports has this name and this place, and one of the modules in the row has this name and is stated so
pub record IsBlamedBy (modules : List Module) (status : ℕ → Status) (row : List ℕ) (imports : List Import) (b : Blamed) : Type 0 where
  pub import : Import
  pub written : Contains imports import
  pub called : import.name.text ≡ b.name
  pub placed : b.place ≡ record { line = import.name.line; column = import.name.column }
  pub number : ℕ
  pub imported : Contains row number
  pub named : (slice_index_or modules number no_module).header.name.text ≡ b.name
  pub stated : IsStatedBy (status number) b.name b.subject

abbrev pub IsBlamed : ModuleSet → (ℕ → Status) → ℕ → Blamed → Type 0
IsBlamed p status i b = IsBlamedBy p.modules status (imports_of p i) (module_at p i).header.imports b

-- the message of an import that isn't good
abbrev pub IsBlameMessage : MessageFormat → List ℕ → List ℕ → Blamed → List ℕ → Type 0
IsBlameMessage format file source b text = IsMessage format file source b.place b.subject text

-- how many notes or modules a reader is shown at most
abbrev pub most_noted : ℕ
most_noted = 8

-- how many of so many are shown: as JSON all
abbrev pub noted_of : MessageFormat → ℕ → ℕ
noted_of Plain n = min n most_noted
noted_of Coloured n = min n most_noted
noted_of Json n = n

-- a message for each name that the report blames, in order, at an import of the module that has it. A reader is shown the first few
pub record AreBlamesStated (format : MessageFormat) (files texts : List (List ℕ)) (source : ℕ) (p : ModuleSet) (status : ℕ → Status) (i : ℕ) (text : List ℕ) : Type 0 where
  pub blames : List Blamed
  pub blamed : AreBlamed p status i (map (λ b. b.name) blames)
  pub right : All (IsBlamed p status i) blames
  pub stated : AreEach (IsBlameMessage format (slice_index_or files source []) (slice_index_or texts source [])) (take (noted_of format (length blames)) blames) text

abbrev pub blamed_of : Blame → Blamed
blamed_of b = record { name = b.name.now; place = b.place; subject = cond b.is_faulty (faulty b.name.now) (skipped b.name.now) }

-- what is said of a faulty module: a message for each of its faults, from the source that spells it. Nothing is stated of another module. The truth values say
-- whether the limit was said before the module, and whether it was said after it
abbrev pub IsStatedAs : MessageFormat → List (List ℕ) → List (List ℕ) → ModuleSet → (ℕ → Status) → ℕ → Bool → Bool → List ℕ → Status → Type 0
IsStatedAs format files texts p status i before after text (Published f) = (after ≡ before) × (text ≡ [])
IsStatedAs format files texts p status i before after text (Failed found) =
    (source : ℕ) × IsSpelledBy texts i source × IsFaultyStated format files texts source p status i found before after text
IsStatedAs format files texts p status i before after text Skipped = (after ≡ before) × (text ≡ [])

abbrev pub AreErrorsStated : MessageFormat → List (List ℕ) → List (List ℕ) → ModuleSet → (ℕ → Status) → ℕ → Bool → Bool → List ℕ → Type 0
AreErrorsStated format files texts p status i before after text = IsStatedAs format files texts p status i before after text (status i)

-- what is said of a skipped module: a note for each of its lines in the report, from the source that spells it
abbrev pub IsSkippedStated : MessageFormat → List (List ℕ) → List (List ℕ) → ModuleSet → (ℕ → Status) → ℕ → List ℕ → Type 0
IsSkippedStated format files texts p status i text = (source : ℕ) × IsSpelledBy texts i source × AreBlamesStated format files texts source p status i text

-- a module's name and its number
pub record Numbered : Type 0 where
  pub name : List ℕ
  pub number : ℕ

abbrev pub named_of : NumberedName → Numbered
named_of r = record { name = r.name.now; number = r.number }

pub record IsRowOf (modules : List Module) (k : ℕ) (r : Numbered) : Type 0 where
  pub number : r.number ≡ k
  pub name : r.name ≡ (slice_index_or modules k no_module).header.name.text

-- the modules, in order
pub record AreNumbered (modules : List Module) (rows : List Numbered) : Type 0 where
  pub many : length rows ≡ length modules
  pub each : (k : ℕ) (d : Numbered) → k < length rows → IsRowOf modules k (slice_index_or rows k d)

-- the skipped modules among these, in order
abbrev pub skipped_among : (ℕ → Status) → List Numbered → List Numbered
skipped_among status rows = filter (λ r. is_skipped (status r.number)) rows

-- how many faults the first n modules have
abbrev pub faults_in : Status → ℕ
faults_in (Published f) = 0
faults_in (Failed found) = length found
faults_in Skipped = 0

abbrev pub fault_count : (ℕ → Status) → ℕ → ℕ
fault_count status zero = 0
fault_count status (suc n) = fault_count status n + faults_in (status n)

-- what is said of these skipped modules: a reader is shown the notes of the first few, and how many others there are
pub record AreSkipsStated (format : MessageFormat) (files texts : List (List ℕ)) (p : ModuleSet) (status : ℕ → Status) (skips : List Numbered) (text : List ℕ) : Type 0 where
  pub notes : List ℕ
  pub noted : AreEach (λ r m. IsSkippedStated format files texts p status r.number m) (take (noted_of format (length skips)) skips) notes
  pub whole : text ≡ notes ++ further_text format (length skips - noted_of format (length skips))

-- what is said of a set: of each faulty module, in the order of the names, as the report's blocks stand; after it of the skipped modules, in the same order;
-- and after it the counts. `limited` says whether the limit on trials was stated, which it wasn't before the first module
pub record IsSetStated (format : MessageFormat) (files texts : List (List ℕ)) (p : ModuleSet) (status : ℕ → Status) (text : List ℕ) : Type 0 where
  pub rows : List Numbered
  pub all : AreNumbered p.modules rows
  pub order : List Numbered
  pub same : IsPermutation rows order
  pub ordered : IsSortedBy (λ x y. name_below x.name y.name) order
  pub errors : List ℕ
  pub limited : Bool
  pub stated : AreInTurn (λ r before after m. AreErrorsStated format files texts p status r.number before after m) order false limited errors
  pub notes : List ℕ
  pub noted : AreSkipsStated format files texts p status (skipped_among status order) notes
  pub whole : text ≡ errors ++ notes ++ count_text format (min (fault_count status (length p.modules)) (2 ^ 64 - 1)) (tally is_skipped status (length p.modules))
