-- A source in which each name has a definition: the hole as the definition of some, and spaces in place of definitions that have others.
use Rattle.std.specs.Prelude.{◌≡◌, ◌≤◌, ℕ, List, [], ◌∷◌, ◌++◌, codes, map, take, drop, flat_map, slice_range, if◌then◌else◌}
use Rattle.hm_lex.specs.Cut.{is_line_end, place_after}
use Rattle.hm_messages_changes.specs.Holes.{hole}
use Rattle.hm_messages_changes.specs.declared.data.Other.{Other}

-- a definition of a variable as the hole, after a semicolon (Report 4.4.3)
abbrev pub defined : List ℕ → List ℕ
defined x = codes " ; " ++ (x ++ (codes " = " ++ hole))

-- the source with such definitions of these variables, put in after its first bytes
abbrev pub with_definitions : List ℕ → ℕ → List (List ℕ) → List ℕ
with_definitions source at names = take at source ++ (flat_map defined names ++ drop at source)

-- a space in place of a byte, except at the end of a line
abbrev pub blank : ℕ → ℕ
blank b = if is_line_end b then b else 32

-- the source with spaces in place of a definition
abbrev pub blanked : List ℕ → Other → List ℕ
blanked source d = take d.from source ++ (map blank (slice_range source d.from d.to) ++ drop d.to source)

-- and in place of several
abbrev pub all_blanked : List ℕ → List Other → List ℕ
all_blanked source [] = source
all_blanked source (d ∷ ds) = blanked (all_blanked source ds) d

-- spaces in place of a definition move nothing: the place after as many bytes stays the same
abbrev pub SpacesMoveNothing : Type 0
SpacesMoveNothing = (source : List ℕ) (d : Other) (n : ℕ) → d.from ≤ d.to → place_after (take n (blanked source d)) ≡ place_after (take n source)

-- the source with the hole as the definition of these variables and of those whose definitions spaces replace
abbrev pub replaced : List ℕ → ℕ → List (List ℕ) → List Other → List ℕ
replaced source at names ds = with_definitions (all_blanked source ds) at (names ++ map (λ d. d.name.now) ds)
