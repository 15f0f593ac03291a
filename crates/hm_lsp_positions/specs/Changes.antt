-- Changes of a text (Language Server Protocol 3.17, `TextDocumentContentChangeEvent`).
use Rattle.std.specs.Prelude.{◌≡◌, ℕ, ◌<◌, ◌≤◌, List, [], ◌∷◌, ◌++◌, Option, None, Some, take, drop}
use Rattle.hm_lsp_positions.specs.Positions.{IsOffsetOf}
use Rattle.hm_lsp_positions.specs.declared.changes.Change.{Change}
use Rattle.hm_lsp_positions.specs.declared.changes.Range.{Range}
use Rattle.hm_lsp_positions.specs.declared.units.Encoding.{Encoding}

-- the ends of a range, as numbers of bytes
pub record AreEndsOf (encoding : Encoding) (text : List ℕ) (range : Range) (from to : ℕ) : Type 0 where
  pub start : IsOffsetOf encoding text range.start from
  pub end : IsOffsetOf encoding text range.end to

-- the text with this filling in place of the range
pub record IsFilled (encoding : Encoding) (text : List ℕ) (range : Range) (filling made : List ℕ) : Type 0 where
  pub from : ℕ
  pub to : ℕ
  pub ends : AreEndsOf encoding text range from to
  pub ordered : from ≤ to
  pub whole : made ≡ take from text ++ (filling ++ drop to text)

abbrev pub IsMade : Encoding → List ℕ → Option Range → List ℕ → List ℕ → Type 0
IsMade encoding text None filling made = made ≡ filling
IsMade encoding text (Some range) filling made = IsFilled encoding text range filling made

-- the text after a change
abbrev pub IsApplied : Encoding → List ℕ → Change → List ℕ → Type 0
IsApplied encoding text change made = IsMade encoding text change.range change.text.items made

-- the range ends before it starts
abbrev pub IsReversedRange : Encoding → List ℕ → Option Range → Type 0
IsReversedRange encoding text None = ⊥
IsReversedRange encoding text (Some range) = (from : ℕ) × (to : ℕ) × AreEndsOf encoding text range from to × (to < from)

abbrev pub IsReversed : Encoding → List ℕ → Change → Type 0
IsReversed encoding text change = IsReversedRange encoding text change.range

-- the text after all changes, in order
pub data AreApplied (encoding : Encoding) : List ℕ → List Change → List ℕ → Type 0 where
  unchanged : {text : List ℕ} → AreApplied encoding text [] text
  after : {text next made : List ℕ} {change : Change} {changes : List Change} → IsApplied encoding text change next → AreApplied encoding next changes made
      → AreApplied encoding text (change ∷ changes) made

-- the range of one of the changes ends before it starts, in the text after the changes before it
pub data HasReversed (encoding : Encoding) : List ℕ → List Change → Type 0 where
  at_first : {text : List ℕ} {change : Change} {changes : List Change} → IsReversed encoding text change → HasReversed encoding text (change ∷ changes)
  later : {text next : List ℕ} {change : Change} {changes : List Change} → IsApplied encoding text change next → HasReversed encoding next changes → HasReversed encoding text (change ∷ changes)
