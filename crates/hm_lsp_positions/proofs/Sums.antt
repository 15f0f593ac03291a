-- Sums of units.
use Rattle.std.proofs.Common.{◌≡◌, ℕ, ◌+◌, ◌<◌, ◌≤◌, true, false, List, [], ◌∷◌, length, take, get_or, refl, ap, ◌∙◌, arith, ⊎_elim, if◌then◌else◌}
use Rattle.std.specs.Prelude.{min, nat_le}
use Rattle.std.proofs.lemmas.Bool.{cases_Bool, cond-false, cond-true}
use Rattle.std.proofs.lemmas.List.{length-take, take-take}
use Rattle.std.proofs.lemmas.List.Sums.{sum_by-cons, sum_by-take-le, sum_by_more}
use Rattle.hm_lsp_positions.specs.Units.{continues, unit_of, units}
use Rattle.hm_lsp_positions.specs.declared.units.Encoding.{Encoding}
use Rattle.hm_lsp_positions.specs.declared.units.Encoding.TheVariants.{Utf8, Utf16, Utf32}

pub units_more : (e : Encoding) (line : List ℕ) (i : ℕ) → i < length line → units e (take (i + 1) line) ≡ units e (take i line) + unit_of e (get_or line i 0)
units_more e line i low = sum_by_more (unit_of e) line i 0 low

pub units_le : (e : Encoding) (line : List ℕ) (i j : ℕ) → i ≤ j → units e (take i line) ≤ units e (take j line)
units_le e line i j low =
    let less = sum_by-take-le (unit_of e) (take j line) i in
    let same : units e (take i (take j line)) ≡ units e (take i line) = ap (units e) (take-take i j line low) in
    omega (arith, less, same)

unit_some : (e : Encoding) (b : ℕ) → continues b ≡ false → 0 < unit_of e b
unit_some Utf8 b first = omega arith
unit_some Utf16 b first =
    let here : unit_of Utf16 b ≡ (if nat_le 0xF0 b then 2 else 1) = cond-false _ _ _ first in
    ⊎_elim (λ (t : nat_le 0xF0 b ≡ true). let two : unit_of Utf16 b ≡ 2 = here ∙ cond-true _ _ _ t in omega (arith, two))
    (λ (f : nat_le 0xF0 b ≡ false). let one : unit_of Utf16 b ≡ 1 = here ∙ cond-false _ _ _ f in omega (arith, one))
    (cases_Bool (nat_le 0xF0 b))
unit_some Utf32 b first = let one : unit_of Utf32 b ≡ 1 = cond-false _ _ _ first in omega (arith, one)

pub units_less : (e : Encoding) (line : List ℕ) (i j : ℕ) → i < j → j ≤ length line → continues (get_or line i 0) ≡ false → units e (take i line) < units e (take j line)
units_less e line i j low within first =
    let step = units_more e line i (omega (arith, low, within)) in
    let rest = units_le e line (i + 1) j (omega (arith, low)) in
    let some = unit_some e (get_or line i 0) first in
    omega (arith, step, rest, some)

pub sum_more : (e : Encoding) (line : List ℕ) (i sum unit : ℕ) → i < length line → sum ≡ units e (take i line) → unit ≡ unit_of e (get_or line i 0) → sum + unit ≡ units e (take (i + 1) line)
sum_more e line i sum unit low is more = let step = units_more e line i low in omega (arith, step, is, more)

-- a byte is a unit of UTF-8
bytes_units : (xs : List ℕ) → units Utf8 xs ≡ length xs
bytes_units [] = refl
bytes_units (x ∷ xs) =
    let step : units Utf8 (x ∷ xs) ≡ 1 + units Utf8 xs = sum_by-cons (unit_of Utf8) x xs in
    let rest = bytes_units xs in
    omega (arith, step, rest)

pub bytes_before : (xs : List ℕ) (k : ℕ) → units Utf8 (take k xs) ≡ min k (length xs)
bytes_before xs k = bytes_units (take k xs) ∙ length-take k xs
