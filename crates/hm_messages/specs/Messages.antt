-- One message, and messages in a row.
use Rattle.std.specs.Prelude.{◌≡◌, ◌≤◌, ℕ, List, [], ◌∷◌, ◌++◌, Option, Some, None, encode_utf8, option_map}
use Rattle.std.specs.Str.Lossy.{utf8_lossy}
use Rattle.hm_lex.specs.declared.token.Place.{Place}
use Rattle.hm_names.specs.declared.faults.Fault.{Fault}
use Rattle.hm_messages_details.specs.Details.{Known, nothing, near, of_report, either, first, arguments, lengths, not_from, near_binding, near_local, elsewhere, by_pattern}
use Rattle.hm_messages_excerpts.specs.Columns.{AreColumnsAt}
use Rattle.hm_messages_excerpts.specs.Drawing.{excerpt_text}
use Rattle.hm_messages_excerpts.specs.Escapes.{shown}
use Rattle.hm_messages_excerpts.specs.Excerpts.{IsExcerptAt, IsPlaceIn}
use Rattle.hm_messages_excerpts.specs.declared.columns.Columns.{Columns}
use Rattle.hm_messages_excerpts.specs.declared.excerpt.Excerpt.{Excerpt}
use Rattle.hm_messages_json.specs.Objects.{message_text}
use Rattle.hm_messages_json.specs.declared.message.Message.{Message}
use Rattle.hm_messages_json.specs.declared.message.Position.{Position}
use Rattle.hm_messages_json.specs.Edits.{Changed, HasEdits}
use Rattle.hm_messages_json.specs.Positions.{IsPositionAt, IsRangeAt, IsRangeOf}
use Rattle.hm_messages_json.specs.declared.positions.Span.{Span}
use Rattle.hm_messages.specs.Changes.{AreSaid}
use Rattle.hm_messages.specs.Headings.{heading, title}
use Rattle.hm_messages.specs.ModuleStarts.{IsModuleAt, IsModuleAround, Start}
use Rattle.hm_messages.specs.Notices.{notice_of}
use Rattle.hm_messages.specs.Subjects.{Subject, fault}
use Rattle.hm_messages.specs.declared.heading.MessageFormat.{MessageFormat}
use Rattle.hm_messages.specs.declared.heading.MessageFormat.TheVariants.{Plain, Coloured, Json}

-- the place as readers count it, its column in characters
abbrev pub reader_place : Place → Columns → Place
reader_place p columns = record { line = p.line; column = columns.characters }

-- no message for a reader can name the place: it isn't in the source, or its column in characters is 2^32 or more
abbrev pub HasNoReaderPlace : List ℕ → Place → Type 0
HasNoReaderPlace source place = IsPlaceIn source place → (columns : Columns) × AreColumnsAt source place columns × (4294967296 ≤ columns.characters)

-- no message can name the place. One for a program can name any place in the source
abbrev pub HasNoMessage : MessageFormat → List ℕ → Place → Type 0
HasNoMessage Plain source place = HasNoReaderPlace source place
HasNoMessage Coloured source place = HasNoReaderPlace source place
HasNoMessage Json source place = ¬ IsPlaceIn source place

-- the text states the subject at a place, which lies in the source: the file, the place, what is wrong, a sentence, and the line with a mark at the place
pub record IsProse (format : MessageFormat) (file source : List ℕ) (place : Place) (subject : Subject) (text : List ℕ) : Type 0 where
  pub columns : Columns
  pub columns_at : AreColumnsAt source place columns
  pub excerpt : Excerpt
  pub excerpt_at : IsExcerptAt source place excerpt
  pub says : text ≡ shown file ++ heading format (reader_place place columns) subject ++ (notice_of subject).sentence ++ excerpt_text excerpt

-- the same, of the first line alone
pub record IsProseHeading (format : MessageFormat) (file source : List ℕ) (place : Place) (subject : Subject) (text : List ℕ) : Type 0 where
  pub columns : Columns
  pub columns_at : AreColumnsAt source place columns
  pub says : text ≡ shown file ++ heading format (reader_place place columns) subject

-- the hint is the sentence without its last character, the line end; no sentence gives none
abbrev pub IsHint : List ℕ → Option (List ℕ) → Type 0
IsHint sentence None = sentence ≡ []
IsHint sentence (Some hint) = (last : ℕ) × (sentence ≡ hint ++ encode_utf8 last)

-- the object's members are about the subject
pub record IsAbout (subject : Subject) (m : Message) : Type 0 where
  pub level_is : m.level ≡ (notice_of subject).level
  pub kind_is : m.kind.now ≡ (notice_of subject).kind
  pub name_is : option_map (λ name. name.now) m.name ≡ (notice_of subject).name
  pub other_is : m.other ≡ (notice_of subject).other
  pub text_is : m.text.now ≡ title subject
  pub expected_is : option_map (λ text. text.now) m.expected ≡ (notice_of subject).expected
  pub actual_is : option_map (λ text. text.now) m.actual ≡ (notice_of subject).actual
  pub hint_is : IsHint (notice_of subject).sentence (option_map (λ hint. hint.now) m.hint)

-- what a message for a program has beside its subject: the changes of the source that it speaks of, the part of the source that it is about, and a second one
pub record Extras : Type 0 where
  pub changes : List Changed
  pub part : Option Span
  pub second : Option Span

abbrev pub changes_alone : List Changed → Extras
changes_alone changes = record { changes = changes; part = None; second = None }

-- the text is the object of a message that states the subject at a place: where it begins and ends in the source, which file that is, what is wrong, the
-- changes and the parts that it speaks of, and perhaps in which module of the source
pub record IsObjectWith (file source : List ℕ) (place : Place) (subject : Subject) (extras : Extras) (text : List ℕ) : Type 0 where
  pub message : Message
  pub file_is : message.file.now ≡ utf8_lossy file
  pub range : IsRangeAt source place message.start message.end
  pub about : IsAbout subject message
  pub edited : HasEdits source extras.changes message.edits.now
  pub part_is : IsRangeOf source extras.part message.part
  pub second_is : IsRangeOf source extras.second message.second
  pub module_is : IsModuleAround source place (option_map (λ name. name.now) message.«module»)
  pub says : text ≡ message_text message

-- the same, with the changes that a message of the subject says
pub record IsObject (file source : List ℕ) (place : Place) (subject : Subject) (text : List ℕ) : Type 0 where
  pub changes : List Changed
  pub said : AreSaid source place subject changes
  pub object : IsObjectWith file source place subject (changes_alone changes) text

-- the text is the object of a message that names the module which the place is in among these, or no module if it is in none
pub record NamesModule (starts : List Start) (place : Place) (text : List ℕ) : Type 0 where
  pub message : Message
  pub module_is : IsModuleAt starts place (option_map (λ name. name.now) message.«module»)
  pub says : text ≡ message_text message

-- the text states the subject at a place, to a reader or to a program
abbrev pub StatesAt : MessageFormat → List ℕ → List ℕ → Place → Subject → List ℕ → Type 0
StatesAt Plain file source place subject text = IsProse Plain file source place subject text
StatesAt Coloured file source place subject text = IsProse Coloured file source place subject text
StatesAt Json file source place subject text = IsObject file source place subject text

-- the same, with extras that a program gets
abbrev pub StatesWith : MessageFormat → List ℕ → List ℕ → Place → Subject → Extras → List ℕ → Type 0
StatesWith Plain file source place subject extras text = IsProse Plain file source place subject text
StatesWith Coloured file source place subject extras text = IsProse Coloured file source place subject text
StatesWith Json file source place subject extras text = IsObjectWith file source place subject extras text

-- the text states the subject at a place, to a reader by the first line alone
abbrev pub StatesInLine : MessageFormat → List ℕ → List ℕ → Place → Subject → List ℕ → Type 0
StatesInLine Plain file source place subject text = IsProseHeading Plain file source place subject text
StatesInLine Coloured file source place subject text = IsProseHeading Coloured file source place subject text
StatesInLine Json file source place subject text = IsObject file source place subject text

-- a message at a place. It is left out only if no message can name the place
pub data IsMessage (format : MessageFormat) (file source : List ℕ) (place : Place) (subject : Subject) (text : List ℕ) : Type 0 where
  message_stated : StatesAt format file source place subject text → IsMessage format file source place subject text
  message_left_out : text ≡ [] → HasNoMessage format source place → IsMessage format file source place subject text

-- the same, of a message with extras
pub data IsMessageWith (format : MessageFormat) (file source : List ℕ) (place : Place) (subject : Subject) (extras : Extras) (text : List ℕ) : Type 0 where
  with_stated : StatesWith format file source place subject extras text → IsMessageWith format file source place subject extras text
  with_left_out : text ≡ [] → HasNoMessage format source place → IsMessageWith format file source place subject extras text

-- the first line of a message, or its object. It is left out by the same rule
pub data IsHeadingAt (format : MessageFormat) (file source : List ℕ) (place : Place) (subject : Subject) (text : List ℕ) : Type 0 where
  line_stated : StatesInLine format file source place subject text → IsHeadingAt format file source place subject text
  line_left_out : text ≡ [] → HasNoMessage format source place → IsHeadingAt format file source place subject text

-- the position of the place that the detail names, if it names one that is in the source
abbrev pub IsOther : List ℕ → Known → Option Position → Type 0
IsOther source nothing other = other ≡ None
IsOther source (near q x) other = other ≡ None
IsOther source of_report other = other ≡ None
IsOther source (either c d) other = other ≡ None
IsOther source (first p) None = ¬ IsPlaceIn source p
IsOther source (first p) (Some position) = IsPositionAt source p position
IsOther source (arguments here takes) other = other ≡ None
IsOther source (lengths here others) other = other ≡ None
IsOther source (not_from x t y) other = other ≡ None
IsOther source (near_binding x) other = other ≡ None
IsOther source (elsewhere s) other = other ≡ None
IsOther source by_pattern other = other ≡ None
IsOther source (near_local x) other = other ≡ None

-- the message of a fault of which this is known, at the fault's place
pub record IsFaultMessage (format : MessageFormat) (file source : List ℕ) (f : Fault) (known : Known) (text : List ℕ) : Type 0 where
  pub other : Option Position
  pub other_is : IsOther source known other
  pub stated : IsMessage format file source f.place (fault f.kind f.name known other) text

-- the text has a part for each element, in order, and no more
abbrev pub AreEach : {X : Type 0} → (X → List ℕ → Type 0) → List X → List ℕ → Type 0
AreEach says [] text = text ≡ []
AreEach says (x ∷ xs) text = (first : List ℕ) × (later : List ℕ) × says x first × AreEach says xs later × (text ≡ first ++ later)
