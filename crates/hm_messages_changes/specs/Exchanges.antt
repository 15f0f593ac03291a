-- A source with two parts exchanged.
use Rattle.std.specs.Prelude.{ℕ, List, ◌++◌, codes, take, drop, slice_range}
use Rattle.hm_messages_changes.specs.declared.data.SourceRange.{SourceRange}

-- a part of the source in brackets
abbrev pub bracketed : List ℕ → SourceRange → List ℕ
bracketed source part = codes "(" ++ (slice_range source part.from part.to ++ codes ")")

-- the source with two parts exchanged, each in brackets
abbrev pub with_exchanged : List ℕ → SourceRange → SourceRange → List ℕ
with_exchanged source first second = take first.from source ++ (bracketed source second ++ (slice_range source first.to second.from ++ (bracketed source first ++ drop second.to source)))
