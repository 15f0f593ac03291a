-- A source with `_` in place of a pattern, and with the pattern's variables bound to the hole.
use Rattle.std.specs.Prelude.{◌≤◌, ℕ, List, [], ◌++◌, codes, take, drop, flat_map, slice_range}
use Rattle.hm_messages_changes.specs.Holes.{hole}
use Rattle.hm_messages_changes.specs.declared.data.Frame.{Frame}
use Rattle.hm_messages_changes.specs.declared.data.Frame.TheVariants.{Where, Front, Let}
use Rattle.hm_messages_changes.specs.declared.data.Span.{Span}
use Rattle.hm_messages_changes.specs.declared.data.SourceRange.{SourceRange}

-- what is before bindings: a `where` of their own, nothing inside one that is there, or a `let` (Report 3.12, 4.4.3)
abbrev pub opening : Frame → List ℕ
opening Where = codes " where { "
opening Front = codes " "
opening Let = codes " let { "

-- and what is after them
abbrev pub closing : Frame → List ℕ
closing Where = codes "}"
closing Front = []
closing Let = codes "} in "

-- a binding of a variable of the source to the hole
abbrev pub hole_for : List ℕ → Span → List ℕ
hole_for source v = slice_range source v.from v.to ++ (codes " = " ++ (hole ++ codes " ; "))

-- bindings of these variables to the hole
abbrev pub bindings : List ℕ → Frame → List Span → List ℕ
bindings source frame variables = opening frame ++ (flat_map (hole_for source) variables ++ closing frame)

-- the source with `_` in place of its bytes from the first number up to the second, and with a text put in after it (Report 3.17)
abbrev pub with_wildcard : List ℕ → ℕ → ℕ → ℕ → List ℕ → List ℕ
with_wildcard source from to at text = take from source ++ (codes "_" ++ (slice_range source to at ++ (text ++ drop at source)))

-- the variable lies in the part
abbrev pub IsInside : SourceRange → Span → Type 0
IsInside part v = (part.from ≤ v.from) × (v.from ≤ v.to) × (v.to ≤ part.to)
