-- A text with edits.
use Rattle.std.specs.Prelude.{◌≡◌, ◌-◌, ◌≤◌, ℕ, List, [], ◌∷◌, ◌++◌, drop, get_or, length, map, slice_range, take}
use Rattle.hm_lex.specs.Cut.{place_after}
use Rattle.hm_lex.specs.declared.token.Place.{Place}
use Rattle.hm_messages_json.specs.declared.message.Position.{Position}
use Rattle.hm_service_candidates.specs.declared.edited.EditedText.{EditedText}
use Rattle.hm_service_messages.specs.Lines.{Change, edit_of}
use Rattle.hm_service_messages.specs.declared.diagnostic.Edit.{Edit}

-- the place of a position, by its column in bytes
abbrev pub place_of : Position → Place
place_of p = record { line = p.line; column = p.columns.bytes }

-- byte number n of the text is at the position
pub record IsByteAt (text : List ℕ) (p : Position) (n : ℕ) : Type 0 where
  pub within : n ≤ length text
  pub place : place_after (take n text) ≡ place_of p

-- the text from byte number `at` on, with these edits. They are in order, and don't overlap
abbrev pub IsEditedFrom : List ℕ → ℕ → List Change → List ℕ → Type 0
IsEditedFrom text at [] made = made ≡ drop at text
IsEditedFrom text at (e ∷ es) made =
    (from : ℕ) × ((to : ℕ) × ((rest : List ℕ) × ((at ≤ from) × ((from ≤ to) × (IsByteAt text e.start from × (IsByteAt text e.end to
    × (IsEditedFrom text to es rest × (made ≡ slice_range text at from ++ (e.text ++ rest)))))))))

-- the text with the edits of a message
abbrev pub IsEdited : List ℕ → List Edit → List ℕ → Type 0
IsEdited text edits made = IsEditedFrom text 0 (map edit_of edits) made

-- the part of the text from the beginning of the first edit to the end of the last one, and where it ends in the new text
pub record IsReplacedBy (text : List ℕ) (edits : List Edit) (e : EditedText) : Type 0 where
  pub start_is : (d : Change) → e.start ≡ place_of (get_or (map edit_of edits) 0 d).start
  pub end_is : (d : Change) → e.end ≡ place_of (get_or (map edit_of edits) (length edits - 1) d).end
  pub to : ℕ
  pub after : (d : Change) → IsByteAt text (get_or (map edit_of edits) (length edits - 1) d).end to
  pub front : List ℕ
  pub whole : e.text.items ≡ front ++ drop to text
  pub new_end_is : e.new_end ≡ place_after front

-- the text that the edits make, with the part that they replace
pub record IsEditedText (text : List ℕ) (edits : List Edit) (e : EditedText) : Type 0 where
  pub edited : IsEdited text edits e.text.items
  pub replaced : IsReplacedBy text edits e

-- why there is none: there are no edits, they aren't in the text in order, or a text is so long that a place has more than 32 bits
pub data HasNoEdited (text : List ℕ) (edits : List Edit) : Type 0 where
  no_edits : edits ≡ [] → HasNoEdited text edits
  apart : ((made : List ℕ) → ¬ (IsEdited text edits made)) → HasNoEdited text edits
  long_text : 4294967294 ≤ length text → HasNoEdited text edits
  long_made : (made : List ℕ) → IsEdited text edits made → 4294967294 ≤ length made → HasNoEdited text edits
