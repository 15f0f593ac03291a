-- Worked examples, by computing.
use Rattle.std.proofs.Common.{◌≡◌, ◌∙◌, ◌+◌, ℕ, Option, Some, None, ap, arith, codes, refl, sym}
use Rattle.hm_lsp_positions.specs.Cursors.{IsLine, IsSpot}
use Rattle.hm_lsp_positions.specs.Lines.{line_start}
use Rattle.hm_lsp_positions.specs.Worked.{CursorsRow, LinesRow, UnitsRow, second_line}
use Rattle.hm_lsp_positions.specs.declared.units.Encoding.TheVariants.{Utf16}

value_in : Option ℕ → ℕ
value_in None = 0
value_in (Some k) = k

other : (a b : ℕ) → Some a ≡ Some b → a ≡ b
unfolding value_in
other a b same = ap value_in same

never : (a b : ℕ) → a ≡ b → b + 1 ≡ a → ⊥
never a b same more = omega (arith, same, more)

never_less : (a b : ℕ) → a ≡ b → a + 1 ≡ b → ⊥
never_less a b same more = omega (arith, same, more)

pub worked_lines : LinesRow
unfolding line_start
worked_lines = record {
  first = refl;
  second = refl;
  third = refl;
  last = refl;
  no_more = refl;
  not_apart = λ e. never 3 2 (other 3 2 e) refl;
}

pub worked_units : UnitsRow
worked_units = record { bytes = refl; pairs = refl; characters = refl; not_characters = λ e. never 3 2 e refl }

second_is : IsLine (codes "a\nb") second_line
unfolding line_start
second_is = record { starts = refl; ordered = omega arith; within = omega arith; few = omega arith; ends = refl; next = refl; later = tt }

second_start : line_start 1 (codes "a\nb") ≡ Some 2
unfolding line_start
second_start = refl

not_before : ¬ (IsLine (codes "a\nb") (record { number = 1; start = 1; end = 3; next = None }))
not_before h = never 2 1 (other 2 1 (sym second_start ∙ h.starts)) refl

not_after : ¬ (IsSpot Utf16 (codes "a\nb") (record { line = second_line; offset = 2; column = 1 }))
not_after h = never 1 0 h.column refl

pub worked_cursors : CursorsRow
worked_cursors = record { line = second_is; spot = record { line = second_is; after = omega arith; within = omega arith; column = refl; few = omega arith }; not_before = not_before; not_after = not_after }
