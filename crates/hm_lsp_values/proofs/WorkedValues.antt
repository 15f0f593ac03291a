-- Worked examples, by computing.
use Rattle.std.proofs.Common.{◌≡◌, ℕ, List, [], codes, length, refl, arith}
use Rattle.std.specs.List.{position_or_len}
use Rattle.hm_lsp_values.specs.Names.{IsShown, is_end, kept, last, line}
use Rattle.hm_lsp_values.specs.Worked.{HoverRow, SymbolsRow, ValuesRow}

apart : (x y : ℕ) → x ≡ 1 → y ≡ 3 → x ≡ y → ⊥
apart x y a b e = omega (arith, a, b, e)

pub worked_values : ValuesRow
worked_values = record { pairs = refl; bytes = refl; not_alike = apart _ _ refl refl; hinted = refl; alone = refl }

third : IsShown (codes "  a -> a\n") (codes "  a -> a\n")
third = line (omega arith) (last refl)

second : IsShown (codes "  bound at 0:1:1\n  a -> a\n") (codes "  a -> a\n")
second = line (omega arith) third

first : IsShown (codes "variable x\n  bound at 0:1:1\n  a -> a\n") (codes "variable x\n  a -> a\n")
first = line (omega arith) second

one_line : (text shown : List ℕ) → IsShown text shown → position_or_len is_end text ≡ length text → kept text [] ≡ [] → shown ≡ []
one_line _ _ (last {text} is) one none = none
one_line _ _ (line {text} {shown} low h) one none = let never : ⊥ = omega (arith, low, one) in absurd never

some : codes "  bound at 0:1:1" ≡ [] → ⊥
some e = cc

pub worked_hover : HoverRow
worked_hover = record { shown = first; not_bound = λ h. some (one_line _ _ h refl refl) }

pub worked_symbols : SymbolsRow
worked_symbols = record { whole = refl; not_alike = others _ _ refl refl }
  where
    others : (x y : ℕ) → x ≡ 10 → y ≡ 22 → x ≡ y → ⊥
    others x y a b e = omega (arith, a, b, e)
