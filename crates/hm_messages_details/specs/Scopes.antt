-- The scopes around the parts of a module: those of the variables of declaration lists and of patterns. No public clause names these.
use Rattle.std.specs.Prelude.{◌≡◌, ◌⊎◌, List, [], ◌∷◌, ◌++◌, None, map, reverse}
use Rattle.hm_syntax.specs.Names.{Identifier}
use Rattle.hm_names.specs.Variables.{bound_names, patterns_variables, texts}
use Rattle.hm_names.specs.Walk.{Locals, with_list}
use Rattle.hm_names.specs.declared.faults.Fault.{Fault}
use Rattle.hm_messages_details.specs.Firsts.{IsAt}
use Rattle.hm_messages_details.specs.Parts.{ModulePart, a_list, a_head, a_row, a_pattern, a_type, a_use, an_end, part_of}
use Rattle.hm_messages_details.specs.declared.parts.ModulePart.{ModulePart as LentPart}
use Rattle.hm_messages_details.specs.declared.role.Role.TheVariants.{Variable}

-- the parts in whose scopes something is, the innermost first
abbrev pub Scopes : Type 0
Scopes = List ModulePart

-- the variables whose scope a part opens
abbrev pub binders : ModulePart → List Identifier
binders (a_list ds) = bound_names ds
binders (a_head ps) = patterns_variables ps
binders (a_row ps) = []
binders (a_pattern n ps) = []
binders (a_type n ts) = []
binders (a_use r n) = []
binders an_end = []

abbrev pub locals_of : Scopes → Locals
locals_of [] = []
locals_of (p ∷ ss) = texts (binders p) ++ locals_of ss

abbrev pub outer_of : Scopes → Scopes
outer_of [] = []
outer_of (p ∷ ss) = ss

-- the scopes around what is after a part
abbrev pub open_after : Scopes → ModulePart → Scopes
open_after ss (a_list ds) = a_list ds ∷ ss
open_after ss (a_head ps) = a_head ps ∷ ss
open_after ss (a_row ps) = ss
open_after ss (a_pattern n ps) = ss
open_after ss (a_type n ts) = ss
open_after ss (a_use r n) = ss
open_after ss an_end = outer_of ss

-- the local variables at a part. A list is in the scope of its own variables
abbrev pub locals_at : Scopes → ModulePart → Locals
locals_at ss (a_list ds) = with_list ds (locals_of ss)
locals_at ss (a_head ps) = locals_of ss
locals_at ss (a_row ps) = locals_of ss
locals_at ss (a_pattern n ps) = locals_of ss
locals_at ss (a_type n ts) = locals_of ss
locals_at ss (a_use r n) = locals_of ss
locals_at ss an_end = locals_of ss

-- R holds at some of these parts and the scopes around it, if these are the scopes around the first
abbrev pub Occurs : (Scopes → ModulePart → Type 0) → Scopes → List ModulePart → Type 0
Occurs R ss [] = ⊥
Occurs R ss (p ∷ ps) = R ss p ⊎ Occurs R (open_after ss p) ps

-- after some of these parts the scopes are those, and the rest of the parts is left
pub data Reaches (ss : Scopes) (ps : List ModulePart) : Scopes → List ModulePart → Type 0 where
  start : Reaches ss ps ss ps
  further : {ts : Scopes} {p : ModulePart} {rest : List ModulePart} → Reaches ss ps ts (p ∷ rest) → Reaches ss ps (open_after ts p) rest

-- the fault is at this variable of an expression, which has no qualifier
abbrev pub IsUseOf : Fault → ModulePart → Type 0
IsUseOf f (a_list ds) = ⊥
IsUseOf f (a_head ps) = ⊥
IsUseOf f (a_row ps) = ⊥
IsUseOf f (a_pattern n ps) = ⊥
IsUseOf f (a_type n ts) = ⊥
IsUseOf f (a_use r n) = (r ≡ Variable) × ((n.qualifier ≡ None) × IsAt f n)
IsUseOf f an_end = ⊥

-- it is in these scopes
abbrev pub IsUseWithin : Fault → Scopes → Scopes → ModulePart → Type 0
IsUseWithin f around ss p = (ss ≡ around) × IsUseOf f p

-- scopes as the code has them, the innermost last
abbrev pub open_in : List LentPart → Scopes
open_in ps = reverse (map part_of ps)
