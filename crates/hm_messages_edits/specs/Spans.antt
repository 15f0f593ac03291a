-- The parts of a source that a note is about, as places.
use Rattle.std.specs.Prelude.{◌≡◌, ◌≤◌, ◌+◌, Option, None, Some}
use Rattle.hm_messages_json.specs.declared.positions.Span.{Span}
use Rattle.hm_messages_changes.specs.declared.data.SourceRange.{SourceRange}
use Rattle.hm_messages_trials.specs.declared.mends.Mend.{Mend}
use Rattle.hm_messages_trials.specs.declared.mends.Mend.TheVariants.{Expression, Pattern, Exchange, Removal, Sides, Patterns, Insertion, Wrapped}

-- the part, from the place of its first byte up to the one after its last byte
abbrev pub span_in : SourceRange → Span
span_in part = record { start = part.start; end = record { line = part.end.line; column = part.end.column + 1 } }

-- these places, or none because the last column has more than 32 bits
abbrev pub IsSpanOf : SourceRange → Option Span → Type 0
IsSpanOf part None = 4294967296 ≤ part.end.column + 1
IsSpanOf part (Some span) = span ≡ span_in part

-- the same of a part that may be missing
abbrev pub IsSpanOfAny : Option SourceRange → Option Span → Type 0
IsSpanOfAny None span = span ≡ None
IsSpanOfAny (Some part) span = IsSpanOf part span

-- the part that a mend speaks of, or the first one
abbrev pub first_part : Mend → SourceRange
first_part (Expression part) = part
first_part (Pattern part) = part
first_part (Exchange first second) = first
first_part (Removal part) = part
first_part (Sides first second) = first
first_part (Patterns first second) = first
first_part (Insertion insertion part) = part
first_part (Wrapped constructor part) = part

-- the other part that it speaks of, if there are two
abbrev pub second_part : Mend → Option SourceRange
second_part (Expression part) = None
second_part (Pattern part) = None
second_part (Exchange first second) = Some second
second_part (Removal part) = None
second_part (Sides first second) = Some second
second_part (Patterns first second) = Some second
second_part (Insertion insertion part) = None
second_part (Wrapped constructor part) = None
