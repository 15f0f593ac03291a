-- Worked examples of units, by computing.
use Rattle.std.proofs.Common.{◌≡◌, ◌∙◌, ℕ, List, Option, None, Some, ap, arith, codes, get_or, inl, inr, refl, sym}
use Rattle.serde_json.proofs.OnLiterals.{serde_json_on_literals}
use Rattle.serde_json.specs.Data.{Items, null}
use Rattle.serde_json.specs.Find.{pointer}
use Rattle.hm_lsp_session.specs.Units.{HasText, IsAgreed, OffersUnits, utf16, utf8}
use Rattle.hm_lsp_session.specs.Worked.{UnitsRow, two_units}

length_of : Option (List ℕ) → ℕ
length_of None = 0
length_of (Some text) = get_or text 4 0

other_text : Some (codes "utf-16") ≡ Some (codes "utf-32") → ⊥
unfolding length_of
other_text h = let same : 49 ≡ 51 = ap length_of h in omega (arith, same)

other_name : Some (codes "utf-8") ≡ Some (codes "utf-32") → ⊥
unfolding length_of
other_name h = let same : 56 ≡ 51 = ap length_of h in omega (arith, same)

not_offered : HasText (codes "utf-32") two_units → ⊥
not_offered (inl h) = other_text h
not_offered (inr (inl h)) = other_name h
not_offered (inr (inr none)) = none

no_list : pointer (codes "/capabilities/general/positionEncodings") null ≡ None
unfolding serde_json_on_literals
no_list = refl

some_list : (ds : Items) → None ≡ Some ds → ⊥
some_list ds h = cc

nothing_offered : OffersUnits (codes "utf-8") null → ⊥
unfolding serde_json_on_literals
nothing_offered o = some_list o.offered o.listed

not_bytes : IsAgreed null Rattle.hm_lsp_positions.specs.declared.units.Encoding.TheVariants.Utf8 → ⊥
not_bytes (utf8 o) = nothing_offered o

pub worked_units : UnitsRow
worked_units = record { offered = inr (inl refl); not_offered = not_offered; each_has = utf16 nothing_offered; not_bytes = not_bytes }
