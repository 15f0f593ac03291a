-- Spans that a cursor finds.
use Rattle.std.proofs.Common.{◌≡◌, ℕ, ◌+◌, ◌-◌, List, length, min, ap, subst, ◌∙◌}
use Rattle.hm_lsp_positions.specs.Cursors.{Walk}
use Rattle.hm_lsp_positions.specs.Positions.{IsOffsetOf, IsPositionOf}
use Rattle.hm_lsp_positions.specs.declared.positions.Position.{Position}
use Rattle.hm_lsp_positions.specs.declared.units.Encoding.TheVariants.{Utf8}
use Rattle.hm_lsp_values.specs.Spans.{IsSpan}

pub span_found : (a b : Walk) (text : List ℕ) (line column size offset end : ℕ) (place start last : Position) → place ≡ record { line = line - 1; column = column - 1 } → IsOffsetOf Utf8 a.text place offset → text ≡ a.text
    → end ≡ min (offset + size) (length text) → IsPositionOf a.encoding a.text offset start → b ≡ a → IsPositionOf b.encoding b.text end last → IsSpan a.encoding a.text line column size start last
span_found a b text line column size offset end place start last is at same ends first walk second = record {
  offset = offset;
  at = subst (λ (p : Position). IsOffsetOf Utf8 a.text p offset) is at;
  starts = first;
  ends = subst (λ (k : ℕ). IsPositionOf a.encoding a.text k last) (ends ∙ ap (λ (t : List ℕ). min (offset + size) (length t)) same) (subst (λ (w : Walk). IsPositionOf w.encoding w.text end last) walk second);
}
