-- A source with a constructor in front of a part.
use Rattle.std.specs.Prelude.{ℕ, List, ◌++◌, codes, take, drop, slice_range}
use Rattle.hm_messages_changes.specs.declared.data.SourceRange.{SourceRange}

-- the source with a constructor of this name applied to a part, which is in brackets (Report 3.3, 3.9)
abbrev pub with_constructor : List ℕ → List ℕ → SourceRange → List ℕ
with_constructor source name part =
    take part.from source ++ (codes "(" ++ (name ++ (codes " (" ++ (slice_range source part.from part.to ++ (codes "))" ++ drop part.to source)))))
