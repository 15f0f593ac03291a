-- Sources in which a variable has the type of a name, or a function takes a value of the type that a part of a definition has.
use Rattle.std.specs.Prelude.{◌≡◌, ◌≤◌, ℕ, List, [], ◌∷◌, ◌++◌, Option, All, codes, drop, length, slice_range}
use Rattle.hm_messages_changes.specs.Probes.{IsWritten, Renaming, before, renamed}
use Rattle.hm_messages_changes.specs.declared.data.Span.{Span}
use Rattle.hm_messages_copies.specs.declared.data.Point.{Point}
use Rattle.hm_messages_copies.specs.declared.data.Point.TheVariants.{Expression, Variable}
use Rattle.hm_messages_copies.specs.declared.data.Scoped.{Scoped}
use Rattle.hm_messages_copies.specs.declared.data.Scoped.TheVariants.{After, Front, Let, Where}

-- an expression in one list with part'here, so both have one type. The whole is the expression again (Report 3.7, 3.13)
abbrev pub beside : List ℕ → List ℕ
beside part = codes "(case part'here : (" ++ part ++ codes ") : [] of { part'same : _ -> part'same })"

-- a declaration with a variable in one list with part'here
abbrev pub sharing : List ℕ → List ℕ
sharing x = codes "part'same = case part'here : " ++ x ++ codes " : [] of { _ -> () }"

-- a declaration in a `where` of its own, first in one that is there, after another one, or in a `let` before a body (Report 3.3, 3.12, 4.4.3)
abbrev pub scoped : Scoped → List ℕ → List ℕ
scoped Where d = codes " where { " ++ d ++ codes " }"
scoped Front d = codes " " ++ d ++ codes " ;"
scoped After d = codes " ; " ++ d
scoped Let d = codes " let { " ++ d ++ codes " } in "

-- the bytes that are the part
abbrev pub part_of : Point → Span
part_of (Expression s) = s
part_of (Variable x at f) = x

-- the bytes in whose place a text is
abbrev pub from_of : Point → ℕ
from_of (Expression s) = s.from
from_of (Variable x at f) = at

abbrev pub to_of : Point → ℕ
to_of (Expression s) = s.to
to_of (Variable x at f) = at

-- and the text
abbrev pub written : List ℕ → Point → List ℕ
written source (Expression s) = beside (slice_range source s.from s.to)
written source (Variable x at f) = scoped f (sharing (slice_range source x.from x.to))

-- a definition: its bytes, its name, an expression that it is the value of, and the name that its copy has. A recursive definition with a signature has another name there,
-- so its own one means the definition with the signature (Report 4.4.1). In place of the name that its copy has there may be another expression after the copy
pub record Definition : Type 0 where
  pub whole : Span
  pub name : List ℕ
  pub value : List ℕ
  pub local : Renaming

-- a copy of a definition, with a text in place of the bytes from one number up to another
abbrev pub copy : List ℕ → Definition → ℕ → ℕ → List ℕ → List ℕ
copy source d from to text =
    codes "let { " ++ renamed source d.local.name d.whole.from from d.local.before ++ text ++ renamed source d.local.name to d.whole.to d.local.after ++ codes " } in " ++ d.local.name

-- a definition in one list with a copy of it, so its copy has its type
abbrev pub tied : List ℕ → List ℕ → List ℕ → List ℕ
tied front value copied = codes "case " ++ front ++ value ++ codes " : (" ++ copied ++ codes ") : [] of { _ -> () }"

-- the part is in these definitions, each of which is in the one before
abbrev pub start_of : List Definition → Point → ℕ
start_of [] p = from_of p
start_of (d ∷ ds) p = d.whole.from

abbrev pub end_of : List Definition → Point → ℕ
end_of [] p = to_of p
end_of (d ∷ ds) p = d.whole.to

-- what is in place of the first of these definitions: the definition, and after it a copy of it, which has copies of the others inside
abbrev pub within : List ℕ → List Definition → Point → List ℕ
within source [] p = written source p
within source (d ∷ ds) p =
    slice_range source d.whole.from d.whole.to ++ codes " ; part'copy = " ++ tied [] d.value (copy source d (start_of ds p) (end_of ds p) (within source ds p))

-- a function of a value with the type of a definition, and of one with the type of a part of it
abbrev pub function_of : List ℕ → Definition → List Definition → Point → List ℕ
function_of source d ds p =
    codes " ; part'types (part'own, part'here) = " ++ tied (codes "part'own : ") d.value (copy source d (start_of ds p) (end_of ds p) (within source ds p))

-- a variable that is what a name means
abbrev pub variable_of : List ℕ → List ℕ
variable_of name = codes " ; part'types = " ++ name

-- where the export list of a module begins if it has one, names that are added to it, and the byte at which a declaration is put in
pub record Place : Type 0 where
  pub exported : Option ℕ
  pub names : List Span
  pub at : ℕ

-- the source with a declaration, which the module exports (Report 5.2)
abbrev pub with_declaration : List ℕ → Place → List ℕ → List ℕ
with_declaration source p declaration = before source p.exported p.names p.at [] ++ declaration ++ drop p.at source

-- what is written anew in a copy is the name of the definition
abbrev pub IsRenamed : List ℕ → Definition → Type 0
IsRenamed source d = All (IsWritten source d.name) d.local.before × All (IsWritten source d.name) d.local.after

-- each definition is in the one before, the part in the last one, and what is written anew in a copy is the name of its definition
abbrev pub AreNested : List ℕ → ℕ → ℕ → List Definition → Point → Type 0
AreNested source from to [] p = (from ≤ from_of p) × (to_of p ≤ to)
AreNested source from to (d ∷ ds) p = (from ≤ d.whole.from) × ((d.whole.to ≤ to) × (IsRenamed source d × AreNested source d.whole.from d.whole.to ds p))
