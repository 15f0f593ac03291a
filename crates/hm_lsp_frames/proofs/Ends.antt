-- The first place of a needle, and the last.
use Rattle.std.proofs.Common.{◌≡◌, ℕ, zero, suc, ◌+◌, ◌<◌, ◌≤◌, ◌⊎◌, min, true, false, List, Option, Some, None, length, take, get_or, sym, ap, subst, ◌∙◌, arith, inl, inr, ⊎_elim}
use Rattle.std.proofs.lemmas.Bool.{cases_Bool, cases_lt, false≢true}
use Rattle.std.proofs.lemmas.List.{get_or-take, length-take, take_min}
use Rattle.memchr.specs.Find.{FindsLastNeedle, FindsNeedle, IsFirst, IsLast, NoneAfter, NoneBefore, OccursAt, first_of, matches, occurs_at, rmatches}
use Rattle.memchr.proofs.lemmas.MatchLemmas.{OccursAt-true, occurs_at-true}
use Rattle.memchr.proofs.lemmas.ValueLemmas.{FindsLastNeedle-value, FindsNeedle-value}
use Rattle.hm_lsp_frames.specs.Frames.{empty_line, end_of, last_length, length_name, most_read}

module _ (hay needle : List ℕ) where
  absent : (k : ℕ) → occurs_at hay needle k ≡ false → ¬ (OccursAt hay needle k)
  absent k f h = false≢true (sym f ∙ occurs_at-true hay needle k h)

  first_more : (i n : ℕ) (r : Option ℕ) → ¬ (OccursAt hay needle i) → IsFirst (OccursAt hay needle) (i + 1) (i + 1 + n) r → IsFirst (OccursAt hay needle) i (i + suc n) r
  first_more i n None none h = λ k low high occurs. ⊎_elim (λ (same : k ≡ i). none (subst (OccursAt hay needle) same occurs)) (λ (l : i < k). h k (omega arith) (omega arith) occurs) (equal_or_above k low)
    where
      equal_or_above : (k : ℕ) → i ≤ k → (k ≡ i) ⊎ (i < k)
      equal_or_above k low = ⊎_elim (λ l. inr l) (λ g. inl (omega arith)) (cases_lt i k)
  first_more i n (Some j) none h =
      let found = h.0 in
      let start = found.low in
      let end = found.high in
      let before : NoneBefore (OccursAt hay needle) i (i + suc n) j = record {
        low = omega (arith, start);
        high = omega (arith, end);
        before = λ k low high occurs. ⊎_elim (λ (l : i < k). found.before k (omega arith) high occurs) (λ (g : k ≤ i). let same : k ≡ i = omega arith in none (subst (OccursAt hay needle) same occurs)) (cases_lt i k);
      } in
      (before, h.1)

  search_first : (i n : ℕ) → (r : Option ℕ) × IsFirst (OccursAt hay needle) i (i + n) r
  search_first i zero = (None, λ k low high occurs. let no : ⊥ = omega arith in no)
  search_first i (suc n) =
      ⊎_elim (λ (t : occurs_at hay needle i ≡ true).
      (Some i, (record { low = omega arith; high = omega arith; before = λ k low high occurs. let no : ⊥ = omega arith in no }, OccursAt-true hay needle i t)))
      (λ (f : occurs_at hay needle i ≡ false).
      let later = search_first (i + 1) n in
      (later.0, first_more i n later.0 (absent i f) later.1))
      (cases_Bool (occurs_at hay needle i))

  last_more : (n : ℕ) (r : Option ℕ) → ¬ (OccursAt hay needle n) → IsLast (OccursAt hay needle) 0 n r → IsLast (OccursAt hay needle) 0 (suc n) r
  last_more n None none h = λ k low high occurs. ⊎_elim (λ (l : k < n). h k (omega arith) l occurs) (λ (g : n ≤ k). let same : k ≡ n = omega arith in none (subst (OccursAt hay needle) same occurs)) (cases_lt k n)
  last_more n (Some j) none h =
      let found = h.0 in
      let end = found.high in
      let after : NoneAfter (OccursAt hay needle) 0 (suc n) j = record {
        low = omega arith;
        high = omega (arith, end);
        after = λ k low high occurs. ⊎_elim (λ (l : k < n). found.after k low l occurs) (λ (g : n ≤ k). let same : k ≡ n = omega arith in none (subst (OccursAt hay needle) same occurs)) (cases_lt k n);
      } in
      (after, h.1)

  search_last : (n : ℕ) → (r : Option ℕ) × IsLast (OccursAt hay needle) 0 n r
  search_last zero = (None, λ k low high occurs. let no : ⊥ = omega arith in no)
  search_last (suc n) =
      ⊎_elim (λ (t : occurs_at hay needle n ≡ true).
      (Some n, (record { low = omega arith; high = omega arith; after = λ k low high occurs. let no : ⊥ = omega arith in no }, OccursAt-true hay needle n t)))
      (λ (f : occurs_at hay needle n ≡ false).
      let before = search_last n in
      (before.0, last_more n before.0 (absent n f) before.1))
      (cases_Bool (occurs_at hay needle n))

  pub first_is : FindsNeedle hay needle 0 (first_of (matches hay needle 0))
  first_is =
      let found = search_first 0 (length hay + 1) in
      let count : 0 + (length hay + 1) ≡ length hay + 1 = omega arith in
      let finds : FindsNeedle hay needle 0 found.0 = subst (λ (n : ℕ). IsFirst (OccursAt hay needle) 0 n found.0) count found.1 in
      subst (FindsNeedle hay needle 0) (FindsNeedle-value hay needle found.0 finds) finds

  pub last_is : FindsLastNeedle hay needle (first_of (rmatches hay needle (length hay)))
  last_is =
      let found = search_last (length hay + 1) in
      subst (FindsLastNeedle hay needle) (FindsLastNeedle-value hay needle found.0 found.1) found.1

-- an occurrence in a list is one in another that has the same first bytes
occurs_again : (a b needle : List ℕ) (n : ℕ) → ((i : ℕ) → i < n → get_or a i 0 ≡ get_or b i 0) → n ≤ length b → (k : ℕ) → k + length needle ≤ n → OccursAt a needle k → OccursAt b needle k
occurs_again a b needle n same within k low h = record { fits = omega arith; reads = λ j l. sym (same (k + j) (omega arith)) ∙ h.reads j l }

first_again : (a b : List ℕ) (n k : ℕ) → ((i : ℕ) → i < n → get_or a i 0 ≡ get_or b i 0) → n ≤ length a → n ≤ length b → k + 4 ≤ n → FindsNeedle a empty_line 0 (Some k) → FindsNeedle b empty_line 0 (Some k)
first_again a b n k same within_a within_b low h =
    let found = h.0 in
    let before : NoneBefore (OccursAt b empty_line) 0 (length b + 1) k = record {
      low = omega arith;
      high = omega arith;
      before = λ j l less occurs. found.before j l less (occurs_again b a empty_line n (λ i m. sym (same i m)) within_a j (omega arith) occurs);
    } in
    (before, occurs_again a b empty_line n same within_b k low h.1)

-- the place of the empty line is inside the stream
pub end_within : (s : List ℕ) (k : ℕ) → end_of s ≡ Some k → (k + 4 ≤ most_read) × (k + 4 ≤ length s)
end_within s k is =
    let finds : FindsNeedle (take most_read s) empty_line 0 (Some k) = subst (FindsNeedle (take most_read s) empty_line 0) is (first_is (take most_read s) empty_line) in
    let fits = finds.1.fits in
    let size = length-take most_read s in
    (omega (arith, fits, size), omega (arith, fits, size))

-- two streams with the same bytes up to the empty line have it at the same place
pub same_end : (s u : List ℕ) (k : ℕ) → end_of s ≡ Some k → take (k + 4) s ≡ take (k + 4) u → end_of u ≡ Some k
same_end s u k is same =
    let finds : FindsNeedle (take most_read s) empty_line 0 (Some k) = subst (FindsNeedle (take most_read s) empty_line 0) is (first_is (take most_read s) empty_line) in
    let within = end_within s k is in
    let in_s : length (take (k + 4) s) ≡ k + 4 = length-take (k + 4) s ∙ min_left (k + 4) (length s) within.1 in
    let size = length-take (k + 4) u in
    let long : k + 4 ≤ length u = omega (arith, size, ap length same, in_s) in
    let bytes : (i : ℕ) → i < k + 4 → get_or (take most_read s) i 0 ≡ get_or (take most_read u) i 0 = λ i l.
    get_or-take most_read s i 0 (omega (arith, within.0)) ∙ sym (get_or-take (k + 4) s i 0 l) ∙ ap (λ (x : List ℕ). get_or x i 0) same ∙ get_or-take (k + 4) u i 0 l
    ∙ sym (get_or-take most_read u i 0 (omega (arith, within.0))) in
    let size_s = length-take most_read s in
    let size_u = length-take most_read u in
    let again = first_again (take most_read s) (take most_read u) (k + 4) k bytes (omega (arith, within.0, within.1, size_s)) (omega (arith, within.0, long, size_u)) (omega arith) finds in
    sym (FindsNeedle-value (take most_read u) empty_line (Some k) again)
  where
    min_left : (a b : ℕ) → a ≤ b → min a b ≡ a
    min_left a b l = omega arith

-- the answer of a search in the first bytes
pub end_found : (s w : List ℕ) (r : Option ℕ) → w ≡ take (min most_read (length s)) s → FindsNeedle w empty_line 0 r → end_of s ≡ r
end_found s w r is h = ap (λ (x : List ℕ). first_of (matches x empty_line 0)) (sym (take_min most_read s) ∙ sym is) ∙ sym (FindsNeedle-value w empty_line r h)

pub last_found : (h : List ℕ) (r : Option ℕ) → FindsLastNeedle h length_name r → r ≡ last_length h
last_found h r found = FindsLastNeedle-value h length_name r found

-- the name of the length is inside
pub last_within : (h : List ℕ) (k : ℕ) → last_length h ≡ Some k → k + 15 ≤ length h
last_within h k is =
    let finds : FindsLastNeedle h length_name (Some k) = subst (FindsLastNeedle h length_name) is (last_is h length_name) in
    finds.1.fits
