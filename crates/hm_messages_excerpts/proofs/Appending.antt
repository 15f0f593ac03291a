-- A text to which one part is appended after the other.
use Rattle.std.proofs.Common.{◌≡◌, ℕ, List, ◌++◌, ap, ◌∙◌, append_assoc}

pub then : (start now next done part : List ℕ) → now ≡ start ++ done → next ≡ now ++ part → next ≡ start ++ (done ++ part)
then start now next done part e f = f ∙ ap (λ (l : List ℕ). l ++ part) e ∙ append_assoc start done part
