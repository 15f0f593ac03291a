-- The edits of a source by which a definition has a type.
use Rattle.std.specs.Prelude.{◌≡◌, ◌≤◌, ◌⊎◌, ℕ, List, [], ◌∷◌, ◌++◌, codes, length, map, take, drop, slice_range, true}
use Rattle.std.specs.Str.Lossy.{utf8_lossy}
use Rattle.hm_lex.specs.Cut.{place_after}
use Rattle.hm_types.specs.Interfaces.{Exports as Interface}
use Rattle.hm_messages_json.specs.Edits.{Changed}
use Rattle.hm_messages_changes.specs.Exchanges.{bracketed}
use Rattle.hm_messages_changes.specs.Holes.{IsPartOf}
use Rattle.hm_messages_changes.specs.declared.data.SourceRange.{SourceRange}
use Rattle.hm_messages_changes.specs.declared.insertions.Insertion.{Insertion as Inserted}
use Rattle.hm_messages_changes.specs.declared.insertions.Insertion.TheVariants.{Brackets, ListBrackets, Argument, Semicolon, Comma}
use Rattle.hm_messages_trials.specs.Mends.{IsMend}
use Rattle.hm_messages_trials.specs.TypedSources.{HasTypesIn}
use Rattle.hm_messages_trials.specs.declared.mends.Mend.{Mend}
use Rattle.hm_messages_trials.specs.declared.mends.Mend.TheVariants.{Expression, Pattern, Exchange, Removal, Sides, Patterns, Insertion, Wrapped}

-- a text in place of the bytes from one number up to another
pub record SourceEdit : Type 0 where
  pub from : ℕ
  pub to : ℕ
  pub text : List ℕ

-- the bytes of the source from a number on, with edits
abbrev pub edited_from : List ℕ → ℕ → List SourceEdit → List ℕ
edited_from source at [] = drop at source
edited_from source at (e ∷ es) = slice_range source at e.from ++ (e.text ++ edited_from source e.to es)

-- the source with edits, which are in order and don't overlap
abbrev pub edited : List ℕ → List SourceEdit → List ℕ
edited source [] = source
edited source (e ∷ es) = take e.from source ++ (e.text ++ edited_from source e.to es)

-- each of two parts in place of the other, in brackets
abbrev pub exchange : List ℕ → SourceRange → SourceRange → List SourceEdit
exchange source first second =
    record { from = first.from; to = first.to; text = bracketed source second } ∷ record { from = second.from; to = second.to; text = bracketed source first } ∷ []

-- a part left out
abbrev pub removal : SourceRange → List SourceEdit
removal part = record { from = part.from; to = part.to; text = [] } ∷ []

-- a text before a part
abbrev pub before : SourceRange → List ℕ → List SourceEdit
before part text = record { from = part.from; to = part.from; text = text } ∷ []

-- a text before a part, and one after it
abbrev pub around : SourceRange → List ℕ → List ℕ → List SourceEdit
around part front back = record { from = part.from; to = part.from; text = front } ∷ record { from = part.to; to = part.to; text = back } ∷ []

-- an argument that is missing isn't known, so it is no edit
abbrev pub insertion_edits : Inserted → SourceRange → List SourceEdit
insertion_edits Brackets part = around part (codes "(") (codes ")")
insertion_edits ListBrackets part = around part (codes "[") (codes "]")
insertion_edits Argument part = []
insertion_edits Semicolon part = before part (codes "; ")
insertion_edits Comma part = before part (codes ", ")

-- the edits of what gives a definition a type. Another expression or pattern isn't known, so it is no edit
abbrev pub edits_of : List ℕ → Mend → List SourceEdit
edits_of source (Expression part) = []
edits_of source (Pattern part) = []
edits_of source (Exchange first second) = exchange source first second
edits_of source (Removal part) = removal part
edits_of source (Sides first second) = exchange source first second
edits_of source (Patterns first second) = exchange source first second
edits_of source (Insertion insertion part) = insertion_edits insertion part
edits_of source (Wrapped constructor part) = around part (codes "(" ++ (constructor.now ++ codes " (")) (codes "))")

-- with the edits of a mend the definition has a type
abbrev pub EditsMend : Type 0
EditsMend = (source name : List ℕ) (fs : List Interface) (definition : List ℕ) (mend : Mend) → IsMend source name fs definition mend → ¬ (edits_of source mend ≡ [])
    → (others : List (List ℕ)) × HasTypesIn (edited source (edits_of source mend)) name fs (definition ∷ others)

-- an edit with the places of its range. The checker accepted the source with it
abbrev pub changed_in : List ℕ → SourceEdit → Changed
changed_in source e = record { start = place_after (take e.from source); end = place_after (take e.to source); text = utf8_lossy e.text; checked = true }

-- the edits of a mend as changes, or none if a place may have more than 32 bits
abbrev pub HasChanges : List ℕ → Mend → List Changed → Type 0
HasChanges source mend changes = (changes ≡ map (changed_in source) (edits_of source mend)) ⊎ ((changes ≡ []) × (4294967295 ≤ length source))

-- the parts that a mend speaks of are in the source
abbrev pub HasPartsIn : List ℕ → Mend → Type 0
HasPartsIn source (Expression part) = IsPartOf source part
HasPartsIn source (Pattern part) = IsPartOf source part
HasPartsIn source (Exchange first second) = IsPartOf source first × IsPartOf source second
HasPartsIn source (Removal part) = IsPartOf source part
HasPartsIn source (Sides first second) = IsPartOf source first × IsPartOf source second
HasPartsIn source (Patterns first second) = IsPartOf source first × IsPartOf source second
HasPartsIn source (Insertion insertion part) = IsPartOf source part
HasPartsIn source (Wrapped constructor part) = IsPartOf source part
