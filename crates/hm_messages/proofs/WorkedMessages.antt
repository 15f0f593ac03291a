-- The worked examples of messages that are left out, and of faults that aren't of these sources.
use Rattle.std.proofs.Common.{rules, ◌≡◌, true, false, is_some, sym, ℕ, suc, ◌+◌, List, [], ◌∷◌, ◌++◌, arith, ap, length, length-append, refl, ◌∙◌}
use Rattle.std.proofs.lemmas.Bool.{false≢true}
use Rattle.hm_lex.specs.Cut.{place_after}
use Rattle.hm_lex.specs.declared.token.Place.{Place}
use Rattle.hm_messages_excerpts.specs.Columns.{AreColumnsAt, characters}
use Rattle.hm_messages_excerpts.specs.Drawing.{excerpt_text}
use Rattle.hm_messages_excerpts.specs.Escapes.{shown}
use Rattle.hm_messages_excerpts.specs.Excerpts.{IsPlaceIn}
use Rattle.hm_messages_excerpts.specs.declared.columns.Columns.{Columns}
use Rattle.hm_messages.specs.Headings.{heading}
use Rattle.hm_messages.specs.Messages.{Extras, HasNoMessage, HasNoReaderPlace, IsMessage, IsMessageWith, StatesAt, StatesWith, message_left_out, message_stated, reader_place, with_left_out, with_stated}
use Rattle.hm_messages.specs.Notices.{notice_of}
use Rattle.hm_messages.specs.Subjects.{Subject}
use Rattle.hm_messages.specs.Worked.{ForeignRow, MessageRow, PositionRow}
use Rattle.hm_messages.specs.declared.heading.MessageFormat.{MessageFormat}
use Rattle.hm_messages.specs.declared.heading.MessageFormat.TheVariants.{Plain, Coloured, Json}

abbrev pub first_place : Place
first_place = record { line = 1; column = 1 }

abbrev pub second_place : Place
second_place = record { line = 1; column = 2 }

no_byte : (xs : List ℕ) → length xs ≡ 0 → xs ≡ []
no_byte [] e = refl
no_byte (x ∷ xs) e = absurd (omega (arith, e))

some_bytes : (front : List ℕ) (x : ℕ) (back : List ℕ) → ¬ ([] ≡ front ++ (x ∷ back))
some_bytes front x back e = let long : 0 ≡ length (front ++ (x ∷ back)) = ap length e in omega (arith, long, length-append front (x ∷ back))

first_byte : List ℕ → ℕ
first_byte [] = 0
first_byte (x ∷ xs) = x

behind : (front back : List ℕ) → [] ≡ front ++ back → [] ≡ back
behind [] back e = e
behind (x ∷ xs) back e = let long : 0 ≡ suc (length (xs ++ back)) = ap length e in absurd (omega (arith, long))

before : (front back : List ℕ) → [] ≡ front ++ back → [] ≡ front
before [] back e = refl
before (x ∷ xs) back e = let long : 0 ≡ suc (length (xs ++ back)) = ap length e in absurd (omega (arith, long))

no_line : (file told more rest : List ℕ) → [] ≡ file ++ told ++ more ++ rest → [] ≡ told
no_line file told more rest e = behind file told (before (file ++ told) more (before (file ++ told ++ more) rest e))

is_first : IsPlaceIn [] first_place
is_first = record { before = []; after = []; whole = refl; placed = refl }

isnt_second : ¬ (IsPlaceIn [] second_place)
isnt_second h =
    let long : 0 ≡ length (h.before ++ h.after) = ap length h.whole in
    let none : h.before ≡ [] = no_byte h.before (omega (arith, long, length-append h.before h.after)) in
    let columns : 2 ≡ 1 = ap (λ (p : Place). p.column) h.placed ∙ ap (λ (l : List ℕ). (place_after l).column) none in
    omega (arith, columns)

one_column : (columns : Columns) → AreColumnsAt [] first_place columns → columns.characters ≡ 1
one_column columns h =
    let rest = h.back ++ h.line.after in
    let long : 0 ≡ length (h.line.before ++ (h.front ++ rest)) = ap length h.line.whole in
    let none : h.front ≡ [] = no_byte h.front (omega (arith, long, length-append h.line.before (h.front ++ rest), length-append h.front rest)) in
    h.characters_are ∙ ap (λ (l : List ℕ). characters l + 1) none

is_for_readers : ¬ (HasNoReaderPlace [] first_place)
is_for_readers h =
    let wide = h is_first in
    omega (arith, one_column wide.0 wide.1, wide.2)

is_told : (format : MessageFormat) → ¬ (HasNoMessage format [] first_place)
is_told Plain h = is_for_readers h
is_told Coloured h = is_for_readers h
is_told Json h = h is_first

pub isnt_stated : (format : MessageFormat) → HasNoMessage format [] second_place
isnt_stated Plain = λ h. absurd (isnt_second h)
isnt_stated Coloured = λ h. absurd (isnt_second h)
isnt_stated Json = isnt_second

isnt_empty : (format : MessageFormat) (file : List ℕ) (s : Subject) → ¬ (StatesAt format file [] first_place s [])
unfolding first_byte
isnt_empty Plain file s h =
    let colon : 0 ≡ 58 = ap first_byte (no_line (shown file) (heading Plain (reader_place first_place h.columns) s) (notice_of s).sentence (excerpt_text h.excerpt) h.says) in
    omega (arith, colon)
isnt_empty Coloured file s h =
    let colon : 0 ≡ 58 = ap first_byte (no_line (shown file) (heading Coloured (reader_place first_place h.columns) s) (notice_of s).sentence (excerpt_text h.excerpt) h.says) in
    omega (arith, colon)
isnt_empty Json file s h = let says = h.object.says in search (rules, some_bytes)

isnt_left_out : (format : MessageFormat) (file : List ℕ) (s : Subject) → ¬ (IsMessage format file [] first_place s [])
isnt_left_out format file s m = elim m [
  | message_stated h ↦ isnt_empty format file s h
  | message_left_out e n ↦ is_told format n
]

isnt_empty_with : (format : MessageFormat) (file : List ℕ) (s : Subject) (x : Extras) → ¬ (StatesWith format file [] first_place s x [])
unfolding first_byte
isnt_empty_with Plain file s x h =
    let colon : 0 ≡ 58 = ap first_byte (no_line (shown file) (heading Plain (reader_place first_place h.columns) s) (notice_of s).sentence (excerpt_text h.excerpt) h.says) in
    omega (arith, colon)
isnt_empty_with Coloured file s x h =
    let colon : 0 ≡ 58 = ap first_byte (no_line (shown file) (heading Coloured (reader_place first_place h.columns) s) (notice_of s).sentence (excerpt_text h.excerpt) h.says) in
    omega (arith, colon)
isnt_empty_with Json file s x h = let says = h.says in search (rules, some_bytes)

pub isnt_left_out_with : (format : MessageFormat) (file : List ℕ) (s : Subject) (x : Extras) → ¬ (IsMessageWith format file [] first_place s x [])
isnt_left_out_with format file s x m = elim m [
  | with_stated h ↦ isnt_empty_with format file s x h
  | with_left_out e n ↦ is_told format n
]

pub worked_messages : MessageRow
worked_messages = record {
  outside = λ format file s. message_left_out refl (isnt_stated format);
  inside = isnt_left_out;
}

pub worked_positions : PositionRow
worked_positions = record {
  none = λ s. refl;
  not_named = λ s q e. let said : true ≡ false = ap is_some e in false≢true (sym said);
  not_left_out = λ h. h is_first;
}

pub worked_foreign : ForeignRow
worked_foreign = record {
  third = λ s t p h. omega (arith, h.1);
  no_number = λ s t p h. omega (arith, h.0);
  second = λ s t p h. h (omega arith, omega arith);
}
