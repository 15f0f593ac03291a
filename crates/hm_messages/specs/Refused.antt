-- The messages of a refused set.
use Rattle.std.specs.Prelude.{◌≡◌, ◌⊎◌, Contains, ℕ, ◌+◌, ◌-◌, ◌<◌, ⊤, List, [], ◌∷◌, ◌++◌, Option, Some, None, length, slice_index_or, take}
use Rattle.hm_messages_excerpts.specs.Excerpts.{IsExcerptAt, IsPlaceIn, IsRestOfLine}
use Rattle.hm_messages_excerpts.specs.declared.excerpt.Excerpt.{Excerpt}
use Rattle.hm_messages_hints.specs.Advice.{IsAdviceAt}
use Rattle.hm_messages_hints.specs.LexemeHints.{IsLexemeHint, operator_in}
use Rattle.hm_messages_hints.specs.declared.lexeme_hints.LexemeHint.{LexemeHint}
use Rattle.hm_messages_hints.specs.declared.lexeme_hints.LexemeHint.TheVariants.{ByteOrderMark}
use Rattle.hm_messages_hints.specs.declared.syntax_hints.SyntaxHint.{SyntaxHint}
use Rattle.hm_lex.specs.declared.token.Place.{Place}
use Rattle.hm_messages_json.specs.Positions.{IsPositionAt}
use Rattle.hm_messages_json.specs.declared.message.Position.{Position}
use Rattle.hm_syntax.specs.Names.{Identifier}
use Rattle.hm_syntax.specs.declared.ast.Import.{Import}
use Rattle.hm_lex.specs.declared.token.LexFault.TheVariants as lexing
use Rattle.hm_parse_grammar.specs.declared.fault.ParseFault.TheVariants as parsing
use Rattle.hm_graph.specs.declared.faults.PlanFault.TheVariants as planning
use Rattle.hm_run_sources.specs.Origins.{AreLocated}
use Rattle.hm_run_sources.specs.declared.located.Located.{Located}
use Rattle.hm_run_sources.specs.Refusals.{Refusal, lex, parse, plan}
use Rattle.hm_messages.specs.FurtherFaults.{AreFurtherFaults}
use Rattle.hm_messages.specs.Headings.{count_text}
use Rattle.hm_messages.specs.Messages.{AreEach, IsHeadingAt, IsMessage}
use Rattle.hm_messages.specs.Missing.{HasNearModule, SetImport, missing_imports}
use Rattle.hm_messages.specs.Subjects.{Subject, too_long, lexeme, open_comment, too_deep, syntax_fault, too_many, twice, twin, missing, cycle, step}
use Rattle.hm_messages.specs.Twins.{IsTwinOf}
use Rattle.hm_messages.specs.declared.heading.MessageFormat.{MessageFormat}

-- the place of the first byte of a source
abbrev pub first_place : Place
first_place = record { line = 1; column = 1 }

-- the hint holds for the rest of the line at the place. A byte order mark is one at the front of the source. The operator that the hint names is the
-- shown one
pub record IsLexemeHintAt (source : List ℕ) (p : Place) (hint : LexemeHint) (name : List ℕ) : Type 0 where
  pub rest : List ℕ
  pub from : IsRestOfLine source p rest
  pub holds : IsLexemeHint rest hint
  pub first : hint ≡ ByteOrderMark → p ≡ first_place
  pub shown : Excerpt
  pub at : IsExcerptAt source p shown
  pub name_is : name ≡ operator_in shown.right.now hint

-- the same if the place is in the source. No message names another place
abbrev pub MayHint : List ℕ → Place → LexemeHint → List ℕ → Type 0
MayHint source p hint name = IsPlaceIn source p → IsLexemeHintAt source p hint name

-- the position of the place, if there is one and it is in the source
abbrev pub IsPositionOf : List ℕ → Option Place → Option Position → Type 0
IsPositionOf source None other = other ≡ None
IsPositionOf source (Some p) None = ¬ IsPlaceIn source p
IsPositionOf source (Some p) (Some position) = IsPositionAt source p position

-- the hint holds at the place, and these are the text of the token that it is about and its position, if it is another token than the one at the place
abbrev pub IsPlacedAdvice : List ℕ → Place → SyntaxHint → List ℕ → Option Position → Type 0
IsPlacedAdvice source p hint text other = (elsewhere : Option Place) × IsAdviceAt source p hint text elsewhere × IsPositionOf source elsewhere other

-- the subject of the message of a refusal. A set isn't refused if memory ran out
abbrev pub IsRefusedSubject : List (List ℕ) → Refusal → Subject → Type 0
IsRefusedSubject sources (lex n lexing.TooLong) s = s ≡ too_long
IsRefusedSubject sources (lex n (lexing.Lexeme p)) s = (hint : LexemeHint) × (name : List ℕ) × (s ≡ lexeme hint name) × MayHint (slice_index_or sources (n - 1) []) p hint name
IsRefusedSubject sources (lex n (lexing.OpenComment p)) s = s ≡ open_comment
IsRefusedSubject sources (lex n (lexing.TooDeep p)) s = s ≡ too_deep
IsRefusedSubject sources (lex n lexing.Memory) s = s ≡ too_long
IsRefusedSubject sources (parse n (parsing.Syntax p)) s =
    (hint : SyntaxHint) × (text : List ℕ) × (other : Option Position) × (s ≡ syntax_fault hint text other) × IsPlacedAdvice (slice_index_or sources (n - 1) []) p hint text other
IsRefusedSubject sources (parse n parsing.Memory) s = s ≡ too_long
IsRefusedSubject sources (plan planning.TooMany m i) s = s ≡ too_many
IsRefusedSubject sources (plan (planning.Duplicate k) m i) s = s ≡ twice m
IsRefusedSubject sources (plan (planning.Missing k j) m i) s = (near : Option (List ℕ)) × HasNearModule sources i near × (s ≡ missing i near)
IsRefusedSubject sources (plan (planning.Cycle k) m i) s = s ≡ cycle m
IsRefusedSubject sources (plan planning.Memory m i) s = s ≡ too_long

-- the advice for a fault of syntax holds. That for another refusal may be any
abbrev pub IsAdvised : List (List ℕ) → Refusal → SyntaxHint → List ℕ → Option Place → Type 0
IsAdvised sources (lex n fault) hint text elsewhere = ⊤
IsAdvised sources (parse n (parsing.Syntax p)) hint text elsewhere = IsAdviceAt (slice_index_or sources (n - 1) []) p hint text elsewhere
IsAdvised sources (parse n parsing.Memory) hint text elsewhere = ⊤
IsAdvised sources (plan fault m i) hint text elsewhere = ⊤

-- the place of an identifier
abbrev pub place_of : Identifier → Place
place_of x = record { line = x.line; column = x.column }

-- a module has its name, or that of one of its imports, at this place
abbrev pub HasNameAt : Located → Place → Type 0
HasNameAt l place = (place ≡ place_of l.header.name) ⊎ ((i : Import) × Contains l.header.imports i × (place ≡ place_of i.name))

-- a module of these sources, in the source with this number, counted from 0, has its name or that of an import at this place
pub record IsNamedAt (sources : List (List ℕ)) (number : ℕ) (place : Place) : Type 0 where
  pub located : List Located
  pub of_sources : AreLocated sources located
  pub here : Located
  pub among : Contains located here
  pub within : here.source ≡ number
  pub at : HasNameAt here place

-- the source, counted from 0, and the place of the refusal. A source that is too long is refused at its first place, and a plan at the name of a module or
-- of an import
abbrev pub IsRefusedAt : List (List ℕ) → Refusal → ℕ → Place → Type 0
IsRefusedAt sources (lex n lexing.TooLong) number place = (number ≡ n - 1) × (place ≡ record { line = 1; column = 1 })
IsRefusedAt sources (lex n (lexing.Lexeme p)) number place = (number ≡ n - 1) × (place ≡ p)
IsRefusedAt sources (lex n (lexing.OpenComment p)) number place = (number ≡ n - 1) × (place ≡ p)
IsRefusedAt sources (lex n (lexing.TooDeep p)) number place = (number ≡ n - 1) × (place ≡ p)
IsRefusedAt sources (lex n lexing.Memory) number place = ⊥
IsRefusedAt sources (parse n (parsing.Syntax p)) number place = (number ≡ n - 1) × (place ≡ p)
IsRefusedAt sources (parse n parsing.Memory) number place = ⊥
IsRefusedAt sources (plan planning.TooMany m i) number place = IsNamedAt sources number place
IsRefusedAt sources (plan (planning.Duplicate k) m i) number place = IsNamedAt sources number place
IsRefusedAt sources (plan (planning.Missing k j) m i) number place = IsNamedAt sources number place
IsRefusedAt sources (plan (planning.Cycle k) m i) number place = IsNamedAt sources number place
IsRefusedAt sources (plan planning.Memory m i) number place = ⊤

-- a message at a place of the source with this number, counted from 0
pub record IsMessageAt (format : MessageFormat) (files sources : List (List ℕ)) (number : ℕ) (place : Place) (subject : Subject) (text : List ℕ) : Type 0 where
  pub inside : number < length sources
  pub stated : IsMessage format (slice_index_or files number []) (slice_index_or sources number []) place subject text

-- an import of a cycle: its source, its place, its module, and the name that it imports
pub record Way : Type 0 where
  pub number : ℕ
  pub place : Place
  pub name : List ℕ
  pub import : List ℕ

abbrev pub IsWayStated : MessageFormat → List (List ℕ) → List (List ℕ) → Way → List ℕ → Type 0
IsWayStated format files sources way text = (way.number < length sources) × IsHeadingAt format (slice_index_or files way.number []) (slice_index_or sources way.number []) way.place (step way.name way.import) text

-- one message at a place of a source, and after it a line for each of some imports
pub record AreMessagesOf (format : MessageFormat) (files sources : List (List ℕ)) (number : ℕ) (place : Place) (subject : Subject) (text : List ℕ) : Type 0 where
  pub first : List ℕ
  pub stated : IsMessageAt format files sources number place subject first
  pub ways : List Way
  pub lines : List ℕ
  pub steps : AreEach (IsWayStated format files sources) ways lines
  pub whole : text ≡ first ++ lines

-- a message at an import that names no module, perhaps with a near name
abbrev pub IsMissingStated : MessageFormat → List (List ℕ) → List (List ℕ) → SetImport → List ℕ → Type 0
IsMissingStated format files sources i text = (near : Option (List ℕ)) × HasNearModule sources i.name near × IsMessageAt format files sources i.number i.place (missing i.name near) text

-- the first import that names no module is this one, and the text has a message for each further one, in order. The number of errors is that of all of
-- them
pub record AreFurtherStated (format : MessageFormat) (files sources : List (List ℕ)) (first : SetImport) (errors : ℕ) (text : List ℕ) : Type 0 where
  pub located : List Located
  pub of_sources : AreLocated sources located
  pub more : List SetImport
  pub all : missing_imports located ≡ first ∷ more
  pub stated : AreEach (IsMissingStated format files sources) more text
  pub count : errors ≡ length more + 1

-- a note at the name of this module, and nothing if there is none
abbrev pub IsTwinStated : MessageFormat → List (List ℕ) → List (List ℕ) → List ℕ → Option Located → List ℕ → Type 0
IsTwinStated format files sources name (Some l) text = IsMessageAt format files sources l.source (record { line = l.header.name.line; column = l.header.name.column }) (twin name) text
IsTwinStated format files sources name None text = text ≡ []

-- the text is a note at a module before the one with this number, which has its name. If none has it, there is no note
pub record HasTwinStated (format : MessageFormat) (files sources : List (List ℕ)) («module» : ℕ) (name text : List ℕ) : Type 0 where
  pub located : List Located
  pub of_sources : AreLocated sources located
  pub found : Option Located
  pub twin_of : IsTwinOf name (take «module» located) found
  pub stated : IsTwinStated format files sources name found text

-- the text after the first message, which is at this place, and the number of errors. It has a note at the first module of a name that is taken, a line
-- for each import of a cycle, or a message for each further import that names no module. Otherwise it is empty
abbrev pub IsRestStated : MessageFormat → List (List ℕ) → List (List ℕ) → Refusal → ℕ → Place → ℕ → List ℕ → Type 0
IsRestStated format files sources (lex n fault) number place errors text = (text ≡ []) × (errors ≡ 1)
IsRestStated format files sources (parse n fault) number place errors text = (text ≡ []) × (errors ≡ 1)
IsRestStated format files sources (plan planning.TooMany m i) number place errors text = (text ≡ []) × (errors ≡ 1)
IsRestStated format files sources (plan (planning.Duplicate k) m i) number place errors text = HasTwinStated format files sources k m text × (errors ≡ 1)
IsRestStated format files sources (plan (planning.Missing k j) m i) number place errors text = AreFurtherStated format files sources (record { number = number; place = place; name = i }) errors text
IsRestStated format files sources (plan (planning.Cycle k) m i) number place errors text = (ways : List Way) × AreEach (IsWayStated format files sources) ways text × (errors ≡ 1)
IsRestStated format files sources (plan planning.Memory m i) number place errors text = (text ≡ []) × (errors ≡ 1)

-- a message of the refusal at its place, the text after it, and the number of errors that they report
pub record AreRefusalMessages (format : MessageFormat) (files sources : List (List ℕ)) (refusal : Refusal) (errors : ℕ) (text : List ℕ) : Type 0 where
  pub subject : Subject
  pub subject_is : IsRefusedSubject sources refusal subject
  pub number : ℕ
  pub place : Place
  pub placed : IsRefusedAt sources refusal number place
  pub first : List ℕ
  pub stated : IsMessageAt format files sources number place subject first
  pub rest : List ℕ
  pub followed : IsRestStated format files sources refusal number place errors rest
  pub whole : text ≡ first ++ rest

-- these messages, then one for each further fault of the sources, and the counts. No module is skipped
pub record IsRefusalStated (format : MessageFormat) (files sources : List (List ℕ)) (refusal : Refusal) (text : List ℕ) : Type 0 where
  pub messages : List ℕ
  pub errors : ℕ
  pub stated : AreRefusalMessages format files sources refusal errors messages
  pub further : List Refusal
  pub faults : AreFurtherFaults sources refusal further
  pub rest : List ℕ
  pub each : AreEach (λ r t. AreRefusalMessages format files sources r 1 t) further rest
  pub whole : text ≡ messages ++ (rest ++ count_text format (errors + length further) 0)
