-- Binding units: the dependency analysis of Report 4.5.1. It leaves out references through signed bindings, which the Report doesn't.
-- Why: docs/DECISIONS.md, "Signed names".
use Rattle.std.specs.Prelude.{◌≡◌, Bool, cond, ◌⊎◌}
use Rattle.std.specs.Bool.{Decides}
use Rattle.hm_typing.specs.Names.{Identifier, IsOneOf, IsDistinct}
use Rattle.hm_typing.specs.Schemes.{Monotype, Scheme, monomorphic}
use Rattle.hm_typing.specs.Syntax.{Bindings, no_binding, unsigned, signed, matched, matched_names, names}
use Rattle.hm_typing.specs.Mentions.{ClausesMention}

-- y has a binding without a signature. The variables of a pattern binding have no signatures, though the Report's 4.4.1 allows them
abbrev pub IsUnsigned : Identifier → Bindings → Type 0
IsUnsigned y no_binding = ⊥
IsUnsigned y (unsigned x cs ds) = (y ≡ x) ⊎ IsUnsigned y ds
IsUnsigned y (signed x s cs ds) = IsUnsigned y ds
IsUnsigned y (matched k p cs ds) = IsOneOf y (matched_names k p) ⊎ IsUnsigned y ds

abbrev pub IsSigned : Identifier → Bindings → Type 0
IsSigned y no_binding = ⊥
IsSigned y (unsigned x cs ds) = IsSigned y ds
IsSigned y (signed x s cs ds) = (y ≡ x) ⊎ IsSigned y ds
IsSigned y (matched k p cs ds) = IsSigned y ds

-- the binding of x mentions y. The names of a pattern binding count as mentioning each other
abbrev pub BindingMentions : Identifier → Identifier → Bindings → Type 0
BindingMentions x y no_binding = ⊥
BindingMentions x y (unsigned z cs ds) = ((x ≡ z) × ClausesMention y cs) ⊎ BindingMentions x y ds
BindingMentions x y (signed z s cs ds) = ((x ≡ z) × ClausesMention y cs) ⊎ BindingMentions x y ds
BindingMentions x y (matched k p cs ds) = (IsOneOf x (matched_names k p) × (IsOneOf y (matched_names k p) ⊎ ClausesMention y cs)) ⊎ BindingMentions x y ds

-- x refers to y, which has no signature
abbrev pub RefersTo : Bindings → Identifier → Identifier → Type 0
RefersTo ds x y = BindingMentions x y ds × IsUnsigned y ds

-- one or more references lead from one name to the other. None leads to a signed binding, so none passes through one
pub data Reaches (ds : Bindings) : Identifier → Identifier → Type 0 where
  directly : {x y : Identifier} → RefersTo ds x y → Reaches ds x y
  through : {x y z : Identifier} → RefersTo ds x y → Reaches ds y z → Reaches ds x z

-- x and y are in one unit. A signed name is alone in its unit
abbrev pub SameUnit : Bindings → Identifier → Identifier → Type 0
SameUnit ds x y = (x ≡ y) ⊎ (Reaches ds x y × Reaches ds y x)

-- the unit of x depends on that of y
abbrev pub DependsOn : Bindings → Identifier → Identifier → Type 0
DependsOn ds x y = Reaches ds x y × ¬ (SameUnit ds x y)

-- the names of the list are distinct, and own x y is true if and only if x and y are in one unsigned unit
abbrev pub AreUnits : Bindings → (Identifier → Identifier → Bool) → Type 0
AreUnits ds own = IsDistinct (names ds) × ((x y : Identifier) → Decides (own x y) (IsUnsigned x ds × IsUnsigned y ds × SameUnit ds x y))

-- the assumption about y for the binding of x: the type of a name of its unit, the scheme of any other name of the list
abbrev pub seen : (Identifier → Identifier → Bool) → (Identifier → Monotype) → (Identifier → Scheme) → Identifier → Identifier → Scheme
seen own ts B x y = cond (own x y) (monomorphic (ts y)) (B y)
