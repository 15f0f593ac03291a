-- A part of a source replaced by an expression of every type, or left out.
use Rattle.std.specs.Prelude.{◌≡◌, ◌<◌, ◌≤◌, ◌-◌, ℕ, List, ◌++◌, codes, length, take, drop}
use Rattle.hm_lex.specs.Cut.{place_after}
use Rattle.hm_messages_changes.specs.declared.data.SourceRange.{SourceRange}

-- the hole: an expression that is bound to itself, and so has every type (Damas and Milner 1982, section 3; Report 4.5)
abbrev pub hole : List ℕ
hole = codes "(let { h = h } in h)"

-- the source with the hole in place of its bytes from the first number up to the second
abbrev pub with_hole : List ℕ → ℕ → ℕ → List ℕ
with_hole source from to = take from source ++ (hole ++ drop to source)

-- the source without its bytes from the first number up to the second
abbrev pub without : List ℕ → ℕ → ℕ → List ℕ
without source from to = take from source ++ drop to source

-- the part isn't empty and is in the source, and these are the places of its first and its last byte
pub record IsPartOf (source : List ℕ) (part : SourceRange) : Type 0 where
  pub some : part.from < part.to
  pub within : part.to ≤ length source
  pub start_is : part.start ≡ place_after (take part.from source)
  pub end_is : part.end ≡ place_after (take (part.to - 1) source)
