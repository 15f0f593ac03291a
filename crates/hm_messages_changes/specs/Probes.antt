-- The sources in which a function takes a value of each of the two types of a part, or a variable has the type of a definition.
use Rattle.std.specs.Prelude.{◌≡◌, ℕ, List, [], ◌∷◌, ◌++◌, Option, None, Some, codes, flat_map, length, take, slice_range}
use Rattle.hm_messages_changes.specs.Holes.{hole}
use Rattle.hm_messages_changes.specs.declared.data.Other.{Other}
use Rattle.hm_messages_changes.specs.declared.data.Span.{Span}
use Rattle.hm_messages_changes.specs.declared.data.SourceRange.{SourceRange}

-- `part'expected` in place of a part, and `part'actual` in one list with the part. So the first has the type that is expected there, and the second the
-- type of the part (Report 3.7, 3.13)
abbrev pub probed_part : List ℕ → List ℕ
probed_part part = codes "(case part'actual : (" ++ part ++ codes ") : [] of { _ -> part'expected })"

-- the name that a definition has where it is local, and the names before a part of it and after the part in whose place this one is written. With another name its
-- own one means the definition outside, which has the type of its signature (Report 4.4.1)
pub record Renaming : Type 0 where
  pub name : List ℕ
  pub before : List Span
  pub after : List Span

-- these bytes of the source are a name
abbrev pub IsWritten : List ℕ → List ℕ → Span → Type 0
IsWritten source name s = slice_range source s.from s.to ≡ name

-- the bytes of the source from the first number up to the second, with a name in place of these
abbrev pub renamed : List ℕ → List ℕ → ℕ → ℕ → List Span → List ℕ
renamed source name from to [] = slice_range source from to
renamed source name from to (s ∷ ss) = slice_range source from s.from ++ (name ++ renamed source name s.to to ss)

-- a definition, which is these bytes of the source, with its part so
abbrev pub probed_definition : List ℕ → Span → Renaming → SourceRange → List ℕ
probed_definition source whole r part =
    renamed source r.name whole.from part.from r.before ++ probed_part (slice_range source part.from part.to) ++ renamed source r.name part.to whole.to r.after

-- the hole in place of a definition, and a second name for it
abbrev pub hollow : List ℕ → List ℕ
hollow name = name ++ codes " = " ++ hole ++ codes " ; part'declared = " ++ name

-- a function of the two values and of one with the type of a definition, which is local in it under a name. In one list with the second name the definition has the
-- type of its signature, if it has one (Report 3.12, 4.4.1)
abbrev pub probe : List ℕ → List ℕ → List ℕ → List ℕ
probe name local definition =
    hollow name ++ codes " ; part'types (part'own, part'expected, part'actual) = case let { " ++ definition ++ codes " } in " ++ local ++ codes " : part'own : part'declared : [] of { _ -> () }"

-- the bytes of the source from the first number up to the second, with the hole in place of these definitions
abbrev pub hollowed : List ℕ → ℕ → ℕ → List Other → List ℕ
hollowed source from to [] = slice_range source from to
hollowed source from to (d ∷ ds) = slice_range source from d.from ++ d.name.now ++ codes " = " ++ hole ++ hollowed source d.to to ds

-- a name of the source in an export list
abbrev pub listed : List ℕ → Span → List ℕ
listed source name = slice_range source name.from name.to ++ codes " , "

-- the source before a definition, with the function and these names at the beginning of the export list, if there is one (Report 5.2)
abbrev pub listed_before : List ℕ → ℕ → List Span → ℕ → List Other → List ℕ
listed_before source at names from others = take at source ++ (codes "part'types , " ++ (flat_map (listed source) names ++ hollowed source at from others))

abbrev pub before : List ℕ → Option ℕ → List Span → ℕ → List Other → List ℕ
before source None names from others = hollowed source 0 from others
before source (Some at) names from others = listed_before source at names from others

-- the bytes of a definition, how it is written where it is local, where the export list begins if there is one, the names that are added to that, and the other
-- definitions that are holes, before it and after it
pub record Surroundings : Type 0 where
  pub whole : Span
  pub local : Renaming
  pub exported : Option ℕ
  pub names : List Span
  pub before : List Other
  pub after : List Other

-- the source with a text in place of a definition
abbrev pub around : List ℕ → Surroundings → List ℕ → List ℕ
around source s text = before source s.exported s.names s.whole.from s.before ++ text ++ hollowed source s.whole.to (length source) s.after

-- the source with the function in place of a definition
abbrev pub with_probe : List ℕ → List ℕ → Surroundings → SourceRange → List ℕ
with_probe source name s part = around source s (probe name s.local.name (probed_definition source s.whole s.local part))

-- a variable that is what a definition is without a signature, which is local (Report 3.12, 4.5.1)
abbrev pub alone : List ℕ → List ℕ → List ℕ
alone name definition = hollow name ++ codes " ; part'types = let { " ++ definition ++ codes " } in " ++ name

-- the source with that variable in place of a definition
abbrev pub with_alone : List ℕ → List ℕ → Surroundings → List ℕ
with_alone source name s = around source s (alone name (slice_range source s.whole.from s.whole.to))
