-- The worked examples.
use Rattle.std.proofs.Common.{◌≡◌, List, ℕ, Bool, true, false, [], ◌∷◌, ap, refl, arith}
use Rattle.serde_json.specs.Data.{Data, string, object, member}
use Rattle.hm_build_place_texts.specs.Worked.{BindingRow, NothingRow, ProseRow, TypesRow}

has_members : Data → Bool
has_members (object (member name value rest)) = true
has_members other = false

has_module : Data → Bool
has_module (object (member file first (member owner (string text) rest))) = true
has_module other = false

head_or_zero : List ℕ → ℕ
head_or_zero [] = 0
head_or_zero (x ∷ xs) = x

pub worked_prose : ProseRow
unfolding head_or_zero
worked_prose = record {
  used = refl;
  bare = refl;
  both = refl;
  skipped = refl;
  nothing = refl;
  not_empty = λ e. let z : 97 ≡ 0 = ap head_or_zero e in absurd (omega (arith, z));
}

pub worked_nothing : NothingRow
unfolding has_members
worked_nothing = record { nothing = refl; not_empty = λ e. let z : true ≡ false = ap has_members e in absurd (cc) }

pub worked_bindings : BindingRow
unfolding has_module
worked_bindings = record { site = refl; elsewhere = refl; not_bound = λ e. let z : false ≡ true = ap has_module e in absurd (cc) }

pub worked_types : TypesRow
worked_types = record { bare = refl; typed = refl; unfound = refl; hidden = refl; not_unfound = λ e. absurd (cc) }
