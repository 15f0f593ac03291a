-- The worked examples of long texts, and of the line about skipped modules.
use Rattle.std.specs.Prelude.{◌-◌, codes, if◌then◌else◌, nat_le, slice_index}
use Rattle.std.proofs.Common.{◌≡◌, ◌≤◌, ◌<◌, ◌+◌, ◌++◌, Bool, false, true, ℕ, List, [], ◌∷◌, ap, arith, drop, length, length-append, refl, take}
use Rattle.std.proofs.lemmas.Bool.{le-leb, leb-false, leb-true}
use Rattle.std.proofs.lemmas.List.{length-drop, length-take-le}
use Rattle.hm_messages_excerpts.specs.Excerpts.{continues}
use Rattle.hm_messages.specs.Cuts.{cut_text, most_shown, shortened, whole_at}
use Rattle.hm_messages.specs.Worked.{CutRow, FurtherCountRow}

-- one of four neighbouring places
low : (a b c : Bool) (n : ℕ) → (if a then (if b then (if c then n - 3 else n - 2) else n - 1) else n) ≤ n
low true true true n = omega arith
low true true false n = omega arith
low true false c n = omega arith
low false b c n = omega arith

high : (a b c : Bool) (n : ℕ) → n ≤ (if a then (if b then (if c then n - 3 else n - 2) else n - 1) else n) + 3
high true true true n = omega arith
high true true false n = omega arith
high true false c n = omega arith
high false b c n = omega arith

at_most : (text : List ℕ) (n : ℕ) → whole_at text n ≤ n
at_most text n = low (continues (slice_index text n)) (continues (slice_index text (n - 1))) (continues (slice_index text (n - 2))) n

at_least : (text : List ℕ) (n : ℕ) → n ≤ whole_at text n + 3
at_least text n = high (continues (slice_index text n)) (continues (slice_index text (n - 1))) (continues (slice_index text (n - 2))) n

cut_size : (text : List ℕ) (a b : ℕ) → a ≤ 500 → 1000 < length text → length text - 500 ≤ b + 3 → length (take a text ++ codes "..." ++ drop b text) ≤ 1006
cut_size text a b low long near =
    let whole : length (take a text ++ codes "..." ++ drop b text) ≡ length (take a text ++ codes "...") + length (drop b text) = length-append (take a text ++ codes "...") (drop b text) in
    let front : length (take a text ++ codes "...") ≡ length (take a text) + 3 = length-append (take a text) (codes "...") in
    omega (arith, whole, front, length-take-le a text (omega (arith, low, long)), length-drop b text, low, long, near)

either_way : (text : List ℕ) (b : Bool) → nat_le (length text) 1000 ≡ b → length (if b then text else cut_text text) ≤ 1006
either_way text true e = omega (arith, leb-true (length text) 1000 e)
either_way text false e = cut_size text (whole_at text most_shown) (whole_at text (length text - most_shown)) (at_most text most_shown) (leb-false (length text) 1000 e) (at_least text (length text - most_shown))

bounded_text : (text : List ℕ) → length (shortened text) ≤ 1006
unfolding shortened
bounded_text text = either_way text (nat_le (length text) 1000) refl

pub worked_cuts : CutRow
unfolding shortened
worked_cuts = record {
  whole = λ text le. ap (λ (b : Bool). if b then text else cut_text text) (le-leb (length text) 1000 le);
  bounded = bounded_text;
  not_whole = λ text long e. let same : length (shortened text) ≡ length text = ap length e in omega (arith, long, same, bounded_text text);
}

first : List ℕ → ℕ
first [] = 0
first (x ∷ xs) = x

pub worked_further : FurtherCountRow
unfolding first
worked_further = record {
  some = refl;
  none = refl;
  not_none = λ e. let letter : 110 ≡ 0 = ap first e in omega (arith, letter);
}
