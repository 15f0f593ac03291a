-- The tables by which names are compared. No public clause names these.
use Rattle.std.specs.Prelude.{◌≡◌, ℕ, ◌<◌, List, Option, None, Some, length, slice_index_or}
use Rattle.std.specs.HashMap.{get}
use Rattle.hm_uses.specs.Uses.{Sense, local_variable, type_variable, an_entity, a_module, a_prefix, unbound, ambiguous}
use Rattle.hm_uses_references.specs.SetNames.{IsSame, SetName}
use Rattle.hm_uses_renames.specs.contracts.firsts.BindingPlacePartialEq as BindingPlacePartialEq
use Rattle.hm_uses_renames.specs.declared.firsts.Firsts.{Firsts}
use Rattle.hm_uses_renames.specs.declared.firsts.BindingPlace.{BindingPlace}

-- where the meaning is bound, if a text binds it
abbrev pub spot_in : ℕ → Sense → Option BindingPlace
spot_in number (local_variable l c) = Some (record { number = number; line = l; column = c })
spot_in number (type_variable l c) = Some (record { number = number; line = l; column = c })
spot_in number (an_entity e) = None
spot_in number (a_module x) = None
spot_in number (a_prefix x) = None
spot_in number unbound = None
spot_in number ambiguous = None

abbrev pub spot_of : SetName → Option BindingPlace
spot_of n = spot_in n.number n.used.sense

-- what the table has for a spot
abbrev pub number_at : Firsts → BindingPlace → Option ℕ
number_at firsts s = get (BindingPlacePartialEq.TheImpl.eq-value).it firsts.table s

-- what a table has for the spot of a name is the number of a name that means the same as its counterpart
abbrev pub IsPaired : (BindingPlace → Option ℕ) → List SetName → SetName → SetName → Type 0
IsPaired table others m n = (s : BindingPlace) → spot_of m ≡ Some s → (k : ℕ) × ((table s ≡ Some k) × ((k < length others) × IsSame (slice_index_or others k n) n))

abbrev pub ArePaired : (BindingPlace → Option ℕ) → List SetName → List SetName → Type 0
ArePaired table names others = (i : ℕ) (d : SetName) → i < length names → IsPaired table others (slice_index_or names i d) (slice_index_or others i d)
