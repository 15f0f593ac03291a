-- Worked examples: the byte of a character, parts in a row, where a name of Prelude is bound, names without a type, and a place without a name.
use Rattle.std.specs.Prelude.{◌≡◌, ℕ, false, List, [], ◌∷◌, Some, codes}
use Rattle.hm_names.specs.Entities.{named}
use Rattle.hm_run_sources.specs.declared.status.Status.TheVariants.{Good, Faulty}
use Rattle.hm_uses.specs.Mentions.{Mention}
use Rattle.hm_uses.specs.Uses.{an_entity, local_variable, unbound}
use Rattle.hm_uses.specs.declared.name_kind.NameKind.TheVariants.{Variable}
use Rattle.hm_verdicts.specs.Verdicts.{Skipped}
use Rattle.hm_build_place_texts.specs.Facts.{in_module, no_declared, not_found, of_bad_module}
use Rattle.hm_build_place_texts.specs.Formats.{text_in}
use Rattle.hm_build_place_texts.specs.declared.texts.PlaceFormat.{PlaceFormat}
use Rattle.hm_build_places.specs.Answers.{AreParts, IsBound, IsByteOf, IsPlaceAnswer, facts_at}
use Rattle.hm_build_places.specs.Known.{Known}
use Rattle.hm_build_places.specs.Typed.{IsDeclaredType}
use Rattle.hm_build_places.specs.TypesAt.{IsOwner, IsTypeHere}

-- a letter of two bytes, and then a letter of one
abbrev pub two_letters : List ℕ
two_letters = 195 ∷ 169 ∷ 121 ∷ []

-- the second letter comes after two bytes, and not after one. There is no sixth one
pub record ByteRow : Type 0 where
  pub second : IsByteOf two_letters 1 2
  pub not_within : ¬ (IsByteOf two_letters 1 1)
  pub past : IsByteOf two_letters 5 3

-- each number as a part
abbrev pub IsAlone : ℕ → List ℕ → Type 0
IsAlone x part = part ≡ x ∷ []

pub record PartsRow : Type 0 where
  pub in_order : AreParts IsAlone (1 ∷ 2 ∷ []) (1 ∷ 2 ∷ [])
  pub not_turned : ¬ (AreParts IsAlone (1 ∷ 2 ∷ []) (2 ∷ 1 ∷ []))

-- no sources and no modules
abbrev pub nothing : Known
nothing = record { set = record { modules = []; plan = [] }; status = λ i. Skipped; files = []; texts = []; origins = [] }

-- a variable of Prelude is bound there, and in no other module. An unbound name isn't
pub record BoundRow : Type 0 where
  pub prelude : IsBound nothing 0 Variable (an_entity (named (codes "Prelude") (codes "not"))) (in_module (codes "Prelude"))
  pub not_elsewhere : ¬ (IsBound nothing 0 Variable (an_entity (named (codes "Prelude") (codes "not"))) (in_module (codes "A")))
  pub not_unbound : ¬ (IsBound nothing 0 Variable unbound (in_module (codes "Prelude")))

-- a name of no good module has no type, because of this module. A local variable has none in a module
pub record TypedRow : Type 0 where
  pub unaccepted : IsDeclaredType nothing Variable (an_entity (named (codes "A") (codes "x"))) (of_bad_module (codes "A"))
  pub not_untyped : ¬ (IsDeclaredType nothing Variable (an_entity (named (codes "A") (codes "x"))) no_declared)
  pub local : IsDeclaredType nothing Variable (local_variable 1 1) no_declared
  pub not_local : ¬ (IsDeclaredType nothing Variable (local_variable 1 1) (of_bad_module (codes "A")))

-- the variable M.x
abbrev pub qualified : Mention
qualified = record { name = record { qualifier = Some (codes "M"); text = codes "x"; line = 1; column = 5 }; kind = Variable; binds = false }

-- the place of M.x, where nothing is known of it. A pattern binding has no name
pub record HereRow : Type 0 where
  pub local : IsTypeHere nothing 0 qualified (local_variable 1 1) not_found
  pub unbound_none : ¬ (IsTypeHere nothing 0 qualified unbound not_found)
  pub function : IsOwner (codes "f") (codes "a -> a") (Some (record { name = codes "f"; own = codes "a -> a" }))
  pub pattern : ¬ (IsOwner (codes "()") (codes "()") (Some (record { name = codes "()"; own = codes "()" })))

-- no name is at the first place of no source, in either format
pub record NothingRow : Type 0 where
  pub faulty : (format : PlaceFormat) → IsPlaceAnswer nothing format 0 1 1 Faulty (text_in format (facts_at nothing 0 1 1 []))
  pub not_good : (format : PlaceFormat) (text : List ℕ) → ¬ (IsPlaceAnswer nothing format 0 1 1 Good text)
