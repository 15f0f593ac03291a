-- A text with a new name, at one more reference.
use Rattle.std.proofs.Common.{◌≡◌, ℕ, suc, ◌+◌, ◌<◌, ◌≤◌, List, [], ◌∷◌, ◌++◌, length, drop, get_or, slice_range, refl, sym, ap, ◌∙◌, subst, append_assoc, arith}
use Rattle.std.proofs.Math.Seq.{drop-cons}
use Rattle.std.proofs.lemmas.List.{drop_all}
use Rattle.hm_uses_references.specs.declared.finding.Reference.{Reference}
use Rattle.hm_uses_renames.specs.Cursors.{IsCursor}
use Rattle.hm_uses_renames.specs.Texts.{IsAt, IsReplaced, IsReplacedFrom}
use Rattle.hm_uses_renames.specs.declared.texts.Cursor.{Cursor}

-- what is made is the text up to byte number `at`, with the new name in place of the first references: whatever the rest becomes, the whole is right
pub record IsBegun (text new : List ℕ) (references : List Reference) (i at : ℕ) (made : List ℕ) : Type 0 where
  pub whole : (rest : List ℕ) → IsReplacedFrom text new at (drop i references) rest → IsReplaced text new references (made ++ rest)

pub begun : (text new : List ℕ) (references : List Reference) → IsBegun text new references 0 0 []
begun text new references = record { whole = λ rest h. h }

pub reference_at : (text : List ℕ) (r : Reference) (start end : Cursor) → IsCursor text start → IsCursor text end → start.place ≡ record { line = r.line; column = r.column } → end.at ≡ start.at + r.length → IsAt text r start.at
reference_at text r start end s e is ends = record {
  place = sym s.place ∙ is;
  within = let w = e.within in omega (arith, w, ends);
}

pub begun_more : (text new : List ℕ) (references : List Reference) (i at from to : ℕ) (d r : Reference) (old mid made : List ℕ) → i < length references → get_or references i d ≡ r → IsBegun text new references i at old → at ≤ from → IsAt text r from
    → to ≡ from + r.length → mid ≡ old ++ slice_range text at from → made ≡ mid ++ new → IsBegun text new references (i + 1) to made
begun_more text new references i at from to d r old mid made inside is before ordered here ends first second = record {
  whole = λ rest h.
      let tail : IsReplacedFrom text new (from + r.length) (drop (i + 1) references) rest = subst (λ (n : ℕ). IsReplacedFrom text new n (drop (i + 1) references) rest) ends h in
      let step : IsReplacedFrom text new at (r ∷ drop (i + 1) references) (slice_range text at from ++ (new ++ rest)) = (from, (rest, (ordered, (here, (tail, refl))))) in
      let next : suc i ≡ i + 1 = omega arith in
      let split : drop i references ≡ get_or references i d ∷ drop (i + 1) references = subst (λ (n : ℕ). drop i references ≡ get_or references i d ∷ drop n references) next (drop-cons references i d inside) in
      let front : drop i references ≡ r ∷ drop (i + 1) references = split ∙ ap (λ (x : Reference). x ∷ drop (i + 1) references) is in
      let whole : IsReplaced text new references (old ++ (slice_range text at from ++ (new ++ rest))) =
      before.whole (slice_range text at from ++ (new ++ rest)) (subst (λ (l : List Reference). IsReplacedFrom text new at l (slice_range text at from ++ (new ++ rest))) (sym front) step) in
      let same : made ++ rest ≡ old ++ (slice_range text at from ++ (new ++ rest)) =
      ap (λ (l : List ℕ). l ++ rest) (second ∙ ap (λ (l : List ℕ). l ++ new) first) ∙ (append_assoc (old ++ slice_range text at from) new rest ∙ append_assoc old (slice_range text at from) (new ++ rest)) in
      subst (IsReplaced text new references) (sym same) whole;
}

pub ended : (text new : List ℕ) (references : List Reference) (i at : ℕ) (old made : List ℕ) → length references ≤ i → IsBegun text new references i at old → made ≡ old ++ drop at text → IsReplaced text new references made
ended text new references i at old made all before is =
    subst (IsReplaced text new references) (sym is) (before.whole (drop at text) (subst (λ (l : List Reference). IsReplacedFrom text new at l (drop at text)) (sym (drop_all i references all)) refl))
