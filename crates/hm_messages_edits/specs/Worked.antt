-- Worked examples of edits.
use Rattle.std.specs.Prelude.{◌≡◌, ℕ, [], ◌∷◌, codes}
use Rattle.hm_messages_changes.specs.declared.data.SourceRange.{SourceRange}
use Rattle.hm_messages_changes.specs.declared.insertions.Insertion.TheVariants.{Argument, Brackets}
use Rattle.hm_messages_edits.specs.Edits.{edited, exchange, insertion_edits, removal}
use Rattle.hm_messages_edits.specs.Signatures.{IsOfOne, retyped}
use Rattle.hm_messages_edits.specs.Spans.{span_in}

-- a part of a source of one line
abbrev pub part : ℕ → ℕ → SourceRange
part from to = record { from = from; to = to; start = record { line = 1; column = from }; end = record { line = 1; column = to } }

-- two arguments exchanged, an element left out, and brackets put in. The arguments don't lose their brackets, and no argument is put in
pub record EditsRow : Type 0 where
  pub exchanged : edited (codes "f x y") (exchange (codes "f x y") (part 2 3) (part 4 5)) ≡ codes "f (y) (x)"
  pub left_out : edited (codes "f x y") (removal (part 1 3)) ≡ codes "f y"
  pub bracketed : edited (codes "f g x") (insertion_edits Brackets (part 2 5)) ≡ codes "f (g x)"
  pub bare : ¬ (edited (codes "f x y") (exchange (codes "f x y") (part 2 3) (part 4 5)) ≡ codes "f y x")
  pub no_argument : insertion_edits Argument (part 0 1) ≡ []

-- a signature of `f` with another type, and where it ends. One of `f` and `g` isn't of `f` alone
pub record SignatureRow : Type 0 where
  pub text : (retyped (codes "f :: A") (codes "f") (part 0 6) (codes "B")).text ≡ codes "f :: B"
  pub ends : (span_in (part 0 6)).end.column ≡ 7
  pub alone : IsOfOne (codes "f") (codes "f :: A")
  pub not_alone : ¬ (IsOfOne (codes "f") (codes "f, g :: A"))
