-- From a place to its position and back.
use Rattle.std.proofs.Common.{◌≡◌, ℕ, ◌+◌, ◌-◌, ◌<◌, ◌≤◌, true, false, nat_lt, ◌&&◌, List, Option, MatchOption, length, take, drop, get_or, sym, ap, subst, ◌∙◌, arith, ⊎_elim}
use Rattle.std.proofs.lemmas.Bool.{and_parts, cases_lt, false_from_ne_true, false≢true, ltb-true}
use Rattle.std.proofs.lemmas.List.{length-take, take-take}
use Rattle.hm_lsp_positions.specs.Lines.{first_line, line_length}
use Rattle.hm_lsp_positions.specs.Positions.{IsBetween, IsColumn, IsOffsetOf, IsPlace, IsPositionOf, is_inside}
use Rattle.hm_lsp_positions.specs.Units.{continues, units}
use Rattle.hm_lsp_positions.specs.declared.positions.Position.{Position}
use Rattle.hm_lsp_positions.specs.declared.units.Encoding.{Encoding}
use Rattle.hm_lsp_positions.proofs.Starts.{same_value}
use Rattle.hm_lsp_positions.proofs.Sums.{units_le, units_less}

pub column_is : (e : Encoding) (line : List ℕ) (column m k : ℕ) → units e (take m line) ≤ column → (m < length line → column < units e (take (m + 1) line)) → k ≤ m → IsBetween line k
    → ((j : ℕ) → k < j → j ≤ m → is_inside line j ≡ true) → IsColumn e line column k
column_is e line column m k most next before between inside =
    record {
      between = between;
      most = let less = units_le e line k m before in omega (arith, less, most);
      last = λ j after other.
          ⊎_elim (λ (low : j < m + 1). absurd (false≢true (sym other.apart ∙ inside j after (omega (arith, low)))))
          (λ (high : m + 1 ≤ j).
          let within = other.within in
          let more = next (omega (arith, high, within)) in
          let less = units_le e line (m + 1) j high in
          omega (arith, more, less))
          (cases_lt j (m + 1));
    }

-- a column of a place between two characters leads back to it
same_column : (e : Encoding) (line : List ℕ) (column k again : ℕ) → k ≤ length line → (k < length line → continues (get_or line k 0) ≡ false) → column ≡ units e (take k line)
    → IsColumn e line column again → again ≡ k
same_column e line column k again within first is h =
    let apart : is_inside line k ≡ false = false_from_ne_true _ (λ t.
    let parts = and_parts (nat_lt 0 k) (nat_lt k (length line) && continues (get_or line k 0)) t in
    let inner = and_parts (nat_lt k (length line)) (continues (get_or line k 0)) parts.1 in
    false≢true (sym (first (ltb-true k (length line) inner.0)) ∙ inner.1)) in
    let between : IsBetween line k = record { within = within; apart = apart } in
    let most = h.most in
    let inside = h.between.within in
    ⊎_elim (λ (low : again < k). let more = h.last k low between in let never : ⊥ = omega (arith, more, is) in absurd never)
    (λ (high : k ≤ again).
    ⊎_elim (λ (less : k < again).
    let more = units_less e line k again less inside (first (omega (arith, less, inside))) in
    let never : ⊥ = omega (arith, more, most, is) in
    absurd never)
    (λ (ends : again ≤ k). omega (arith, high, ends))
    (cases_lt k again))
    (cases_lt again k)

pub same_place : (e : Encoding) (text : List ℕ) (offset again : ℕ) (p : Position) → IsPositionOf e text offset p → IsPlace text p.line offset → IsOffsetOf e text p again → again ≡ offset
same_place e text offset again p h place back =
    let start : ℕ = h.start in
    let same : place.start ≡ start = same_value place.start start (sym place.starts ∙ h.starts) in
    let rest : List ℕ = drop start text in
    let line : List ℕ = first_line rest in
    let k : ℕ = offset - start in
    let found = subst (λ (o : Option ℕ). MatchOption o (again ≡ length text) (λ start. (k : ℕ) × IsColumn e (first_line (drop start text)) p.column k × (again ≡ start + k))) h.starts back in
    let within : k ≤ length line = subst (λ (s : ℕ). offset - s ≤ length (first_line (drop s text))) same place.within in
    let first : k < length line → continues (get_or line k 0) ≡ false =
    subst (λ (s : ℕ). offset - s < length (first_line (drop s text)) → continues (get_or (first_line (drop s text)) (offset - s) 0) ≡ false) same place.apart in
    let size = length-take (line_length rest) rest in
    let front : take k line ≡ take k rest = take-take k (line_length rest) rest (omega (arith, within, size)) in
    let column : p.column ≡ units e (take k line) = h.column ∙ ap (units e) (sym front) in
    let is = same_column e line p.column k found.0 within first column found.1 in
    let after = h.after in
    omega (arith, found.2, is, after)
