-- Lines and spots of cursors.
use Rattle.std.proofs.Common.{◌≡◌, ◌⊎◌, ℕ, ◌+◌, ◌-◌, ◌*◌, ◌<◌, ◌≤◌, List, ◌++◌, Option, Some, None, MatchOption, append_assoc, length, length-append, take, drop, slice_range, refl, sym, ap, subst, ◌∙◌, arith, ⊎_elim}
use Rattle.std.specs.Prelude.{IfSome}
use Rattle.std.proofs.lemmas.List.{drop-drop, length-drop, length-take-le, take_at, take_rest}
use Rattle.std.proofs.lemmas.List.Edits.{length-between, split_between}
use Rattle.std.proofs.lemmas.List.Sums.{sum_by-append}
use Rattle.hm_lsp_positions.specs.Cursors.{IsLine, IsSpot}
use Rattle.hm_lsp_positions.specs.Lines.{first_line, line_length, line_start}
use Rattle.hm_lsp_positions.specs.Positions.{IsColumn, IsOffsetOf, IsPositionOf}
use Rattle.hm_lsp_positions.specs.Units.{unit_of, units}
use Rattle.hm_lsp_positions.specs.declared.cursors.Line.{Line}
use Rattle.hm_lsp_positions.specs.declared.cursors.Spot.{Spot}
use Rattle.hm_lsp_positions.specs.declared.positions.Position.{Position}
use Rattle.hm_lsp_positions.specs.declared.units.Encoding.{Encoding}
use Rattle.hm_lsp_positions.specs.declared.units.Encoding.TheVariants.{Utf8}
use Rattle.hm_lsp_positions.proofs.Starts.{cut, next_cut, no_next_cut, same_value, start_none}

cut_length : (text : List ℕ) (start : ℕ) → length (cut text start) ≡ length text - start
cut_length text start = ap (λ (l : List ℕ). length l) (take_rest text start) ∙ length-drop start text

cut_end : (text : List ℕ) (start size : ℕ) → size ≡ line_length (cut text start) → start + size ≡ start + line_length (drop start text)
cut_end text start size is = ap (λ (k : ℕ). start + k) (is ∙ ap line_length (take_rest text start))

-- a line after which another one begins
pub line_with : (text : List ℕ) (number start size whole : ℕ) → line_start number text ≡ Some start → start ≤ length text → number ≤ start → size ≡ line_length (cut text start) → size ≤ length (cut text start)
    → Some whole ≡ line_start 1 (cut text start) → 0 < whole → whole ≤ length (cut text start) → IsLine text (record { number = number; start = start; end = start + size; next = Some (start + whole) })
line_with text number start size whole starts low few is inside next some within =
    let long = cut_length text start in
    record {
      starts = starts;
      ordered = omega arith;
      within = omega (arith, long, inside, low);
      few = few;
      ends = cut_end text start size is;
      next = next_cut number start whole text starts next;
      later = (omega (arith, some), omega (arith, long, within, low));
    }

-- the last line
pub line_last : (text : List ℕ) (number start size : ℕ) → line_start number text ≡ Some start → start ≤ length text → number ≤ start → size ≡ line_length (cut text start) → size ≤ length (cut text start) → None ≡ line_start 1 (cut text start)
    → IsLine text (record { number = number; start = start; end = start + size; next = None })
line_last text number start size starts low few is inside none =
    let long = cut_length text start in
    record {
      starts = starts;
      ordered = omega arith;
      within = omega (arith, long, inside, low);
      few = few;
      ends = cut_end text start size is;
      next = no_next_cut number start text starts none;
      later = tt;
    }

-- where the next line begins
pub record IsNext (text : List ℕ) (line : Line) (next : ℕ) : Type 0 where
  pub starts : line_start (line.number + 1) text ≡ Some next
  pub within : next ≤ length text
  pub few : line.number + 1 ≤ next
  pub later : line.start < next

pub next_of : (text : List ℕ) (line : Line) (next : ℕ) → IsLine text line → line.next ≡ Some next → IsNext text line next
next_of text line next h is =
    let after = subst (λ (o : Option ℕ). IfSome o (λ n. (line.start < n) × (n ≤ length text))) is h.later in
    let few = h.few in
    let low = after.0 in
    record { starts = h.next ∙ is; within = after.1; few = omega (arith, few, low); later = low }

-- the first elements are some of them and the part after these
first_parts : (xs : List ℕ) (i j : ℕ) → i ≤ j → j ≤ length xs → take j xs ≡ take i xs ++ slice_range xs i j
first_parts xs i j ordered inside =
    let front = take i xs in
    let middle = slice_range xs i j in
    let below : i ≤ length xs = omega (arith, ordered, inside) in
    let whole : xs ≡ (front ++ middle) ++ drop j xs = split_between xs i j ordered ∙ sym (append_assoc front middle (drop j xs)) in
    let one : length front ≡ i = length-take-le i xs below in
    let other : length middle ≡ j - i = length-between xs i j inside in
    let both : length (front ++ middle) ≡ length front + length middle = length-append front middle in
    let long : length (front ++ middle) ≡ j = omega (arith, one, other, both, ordered) in
    ap (take j) whole ∙ take_at (front ++ middle) (drop j xs) j long

-- the units of a part of a text are those of its two parts
units_parts : (e : Encoding) (text : List ℕ) (start middle end : ℕ) → start ≤ middle → middle ≤ end → end ≤ length text
    → units e (take (end - start) (drop start text)) ≡ units e (take (middle - start) (drop start text)) + units e (take (end - middle) (drop middle text))
units_parts e text start middle end low high inside =
    let rest : List ℕ = drop start text in
    let i : ℕ = middle - start in
    let j : ℕ = end - start in
    let long = length-drop start text in
    let parts = first_parts rest i j (omega (arith, low, high)) (omega (arith, long, low, high, inside)) in
    let count : j - i ≡ end - middle = omega (arith, low, high) in
    let place : start + i ≡ middle = omega (arith, low) in
    let later : slice_range rest i j ≡ take (end - middle) (drop middle text) =
    ap (λ (l : List ℕ). take (j - i) l) (drop-drop i start text ∙ ap (λ (k : ℕ). drop k text) place) ∙ ap (λ (n : ℕ). take n (drop middle text)) count in
    ap (units e) parts ∙ sum_by-append (unit_of e) (take i rest) (slice_range rest i j) ∙ ap (λ (l : List ℕ). units e (take i rest) + units e l) later

-- a later spot in the line of another one
pub spot_later : (e : Encoding) (text : List ℕ) (from : Spot) (line : Line) (offset more : ℕ) → IsSpot e text from → IsLine text line → from.line.number ≡ line.number → from.offset ≤ offset → offset ≤ length text
    → more ≡ units e (take (offset - from.offset) (drop from.offset text)) → more ≤ 2 * (offset - from.offset) → IsSpot e text (record { line = line; offset = offset; column = from.column + more })
spot_later e text from line offset more h k same low inside is small =
    let start : ℕ = from.line.start in
    let at : start ≡ line.start = same_value start line.start (sym h.line.starts ∙ ap (λ (n : ℕ). line_start n text) same ∙ k.starts) in
    let after = h.after in
    let few = h.few in
    let column = h.column in
    let whole = units_parts e text start from.offset offset after low inside in
    let sum : from.column + more ≡ units e (take (offset - start) (drop start text)) = omega (arith, column, is, whole) in
    record {
      line = k;
      after = omega (arith, at, after, low);
      within = inside;
      column = subst (λ (s : ℕ). from.column + more ≡ units e (take (offset - s) (drop s text))) at sum;
      few = omega (arith, few, small, low);
    }

-- the position of a spot's place, if the next line begins later
pub position_is : (e : Encoding) (text : List ℕ) (spot : Spot) (line : Line) (offset : ℕ) → IsSpot e text spot → spot.line ≡ line → spot.offset ≡ offset → IfSome line.next (λ next. offset < next)
    → IsPositionOf e text offset (record { line = spot.line.number; column = spot.column })
position_is e text spot line offset h same at last =
    let after = h.after in
    let next = subst (λ (l : Line). IfSome l.next (λ next. offset < next)) (sym same) last in
    record {
      start = spot.line.start;
      starts = h.line.starts;
      after = omega (arith, after, at);
      last = subst (λ (o : Option ℕ). IfSome o (λ next. offset < next)) (sym h.line.next) next;
      column = subst (λ (k : ℕ). spot.column ≡ units e (take (k - spot.line.start) (drop spot.line.start text))) at h.column;
    }

-- there are fewer lines
pub past_lines : (text : List ℕ) (line : Line) (p : Position) → IsLine text line → (line.number ≡ p.line) ⊎ ((line.number < p.line) × (line.next ≡ None)) → ¬ (line.number ≡ p.line) → IsOffsetOf Utf8 text p (length text)
past_lines text line p h found other =
    ⊎_elim (λ (same : line.number ≡ p.line). absurd (other same))
    (λ (past : (line.number < p.line) × (line.next ≡ None)).
    let low = past.0 in
    let count : (line.number + 1) + (p.line - (line.number + 1)) ≡ p.line = omega (arith, low) in
    let none : line_start p.line text ≡ None = ap (λ (i : ℕ). line_start i text) (sym count) ∙ start_none (line.number + 1) (p.line - (line.number + 1)) text (h.next ∙ past.1) in
    subst (λ (o : Option ℕ). MatchOption o (length text ≡ length text) (λ start. (k : ℕ) × IsColumn Utf8 (first_line (drop start text)) p.column k × (length text ≡ start + k))) (sym none) refl)
    found

-- a column of the line
pub in_line : (text : List ℕ) (line : Line) (p : Position) (k : ℕ) → IsLine text line → line.number ≡ p.line → IsColumn Utf8 (slice_range text line.start line.end) p.column k → IsOffsetOf Utf8 text p (line.start + k)
in_line text line p k h same is =
    let ends = h.ends in
    let count : line.end - line.start ≡ line_length (drop line.start text) = omega (arith, ends) in
    let column : IsColumn Utf8 (first_line (drop line.start text)) p.column k = subst (λ (n : ℕ). IsColumn Utf8 (take n (drop line.start text)) p.column k) count is in
    let found : line_start p.line text ≡ Some line.start = ap (λ (i : ℕ). line_start i text) (sym same) ∙ h.starts in
    subst (λ (o : Option ℕ). MatchOption o (line.start + k ≡ length text) (λ start. (j : ℕ) × IsColumn Utf8 (first_line (drop start text)) p.column j × (line.start + k ≡ start + j))) (sym found) (k, column, refl)
