-- The first frame of a stream takes bytes from its front, and is the same if more bytes follow.
use Rattle.std.proofs.Common.{◌≡◌, ℕ, ◌+◌, ◌-◌, ◌<◌, ◌≤◌, Bool, true, false, nat_eq, nat_le, List, [], ◌++◌, Option, Some, None, length, take, drop, refl, sym, ap, ◌∙◌, arith, ⊎_elim}
use Rattle.std.proofs.lemmas.Bool.{and_parts, cases_Bool, cases_lt, cond-false, cond-true, eq-eqb, false≢true, le-leb, leb-true, ltb-true}
use Rattle.memchr.specs.Find.{first_of, matches}
use Rattle.std.proofs.lemmas.List.{drop-append-le, drop-drop, length-drop, length-take-le, length-append, take-append-le}
use Rattle.hm_lsp_frames.specs.Frames.{Item, malformed, empty_line, end_of, first_frame, is_inside, kept, last_length, most_header, most_read, passed_header, passed_long, with_end, with_length}
use Rattle.hm_lsp_frames.specs.Headers.{length_of}
use Rattle.hm_lsp_frames.proofs.Ends.{end_within, last_within, same_end}

pub record IsPart (F : List ℕ → Option (Item × List ℕ)) (s rest : List ℕ) (f : Item) : Type 0 where
  pub count : ℕ
  pub some : 0 < count
  pub within : count ≤ length s
  pub is : rest ≡ drop count s
  pub again : (t : List ℕ) → F (s ++ t) ≡ Some (f, drop count (s ++ t))

item_in : Option (Item × List ℕ) → Item
item_in None = malformed
item_in (Some p) = p.0

rest_in : Option (Item × List ℕ) → List ℕ
rest_in None = []
rest_in (Some p) = p.1

is_there : Option (Item × List ℕ) → Bool
is_there None = false
is_there (Some p) = true

pub same_item : (f g : Item) (a b : List ℕ) → ◌≡◌ {A = Option (Item × List ℕ)} (Some (f, a)) (Some (g, b)) → f ≡ g
unfolding item_in
same_item f g a b e = ap item_in e

pub same_rest : (f g : Item) (a b : List ℕ) → ◌≡◌ {A = Option (Item × List ℕ)} (Some (f, a)) (Some (g, b)) → a ≡ b
unfolding rest_in
same_rest f g a b e = ap rest_in e

pub not_none : (p : Item × List ℕ) → ¬ (◌≡◌ {A = Option (Item × List ℕ)} None (Some p))
unfolding is_there
not_none p e = false≢true (ap is_there e)

pub passed_header_bounds : (h : List ℕ) (r : Option ℕ) → last_length h ≡ r → (0 < passed_header h r) × (passed_header h r ≤ length h + 4)
passed_header_bounds h None is = (omega arith, omega arith)
passed_header_bounds h (Some k) is =
    let within = last_within h k is in
    ⊎_elim (λ (t : is_inside h k ≡ true).
    let some = ltb-true 0 k (and_parts _ _ t).0 in
    let same : passed_header h (Some k) ≡ k = cond-true _ _ _ t in
    (omega (arith, same, some), omega (arith, same, within)))
    (λ (f : is_inside h k ≡ false).
    let same : passed_header h (Some k) ≡ length h + 4 = cond-false _ _ _ f in
    (omega (arith, same), omega (arith, same)))
    (cases_Bool (is_inside h k))

pub passed_long_bounds : (h : List ℕ) (r : Option ℕ) → last_length h ≡ r → length h ≤ most_header → (0 < passed_long r) × (passed_long r ≤ most_header)
passed_long_bounds h None is short = (omega arith, omega arith)
passed_long_bounds h (Some k) is short =
    let within = last_within h k is in
    ⊎_elim (λ (t : nat_eq k 0 ≡ true).
    let same : passed_long (Some k) ≡ most_header - 14 = cond-true _ _ _ t in
    (omega (arith, same), omega (arith, same)))
    (λ (f : nat_eq k 0 ≡ false).
    let same : passed_long (Some k) ≡ k = cond-false _ _ _ f in
    let some : 0 < k = positive k f in
    (omega (arith, same, some), omega (arith, same, within, short)))
    (cases_Bool (nat_eq k 0))
  where
    positive : (k : ℕ) → nat_eq k 0 ≡ false → 0 < k
    positive k f = ⊎_elim (λ (l : 0 < k). l) (λ (g : k ≤ 0). let zero : k ≡ 0 = omega arith in absurd (false≢true (sym f ∙ eq-eqb k 0 zero))) (cases_lt 0 k)

length_parts : (s : List ℕ) (k : ℕ) (l : Option ℕ) (f : Item) (rest : List ℕ) → k + 4 ≤ length s → with_length l (take k s) s ≡ Some (f, rest) → IsPart (with_length l (take k s)) s rest f
length_parts s k None f rest within e =
    let h : List ℕ = take k s in
    let size : length h ≡ k = length-take-le k s (omega arith) in
    let bounds = passed_header_bounds h (last_length h) refl in
    let count : ℕ = passed_header h (last_length h) in
    record {
      count = count;
      some = bounds.0;
      within = omega (arith, bounds.1, size, within);
      is = sym (same_rest malformed f (drop count s) rest e);
      again = λ t. ap (λ (i : Item). Some (i, drop count (s ++ t))) (same_item malformed f (drop count s) rest e);
    }
length_parts s k (Some n) f rest within e =
    let h : List ℕ = take k s in
    let size : length h ≡ k = length-take-le k s (omega arith) in
    let after : List ℕ = drop (length h + 4) s in
    ⊎_elim (λ (t : nat_le n (length after) ≡ true).
    let enough : n ≤ length after = leb-true _ _ t in
    let count : ℕ = length h + 4 + n in
    let long = length-drop (length h + 4) s in
    let whole = sym (cond-true (nat_le n (length after)) (Some (kept (take n after), drop n after)) None t) ∙ e in
    record {
      count = count;
      some = omega arith;
      within = omega (arith, enough, long, size, within);
      is = sym (same_rest _ f (drop n after) rest whole) ∙ drop-drop n (length h + 4) s;
      again = λ u.
          let longer : drop (length h + 4) (s ++ u) ≡ after ++ u = drop-append-le (length h + 4) s u (omega (arith, size, within)) in
          let more = length-append after u in
          let enough_again : n ≤ length (drop (length h + 4) (s ++ u)) = omega (arith, enough, more, ap length longer) in
          let front : take n (drop (length h + 4) (s ++ u)) ≡ take n after = ap (take n) longer ∙ take-append-le n after u enough in
          cond-true _ (Some (kept (take n (drop (length h + 4) (s ++ u))), drop n (drop (length h + 4) (s ++ u)))) None (le-leb _ _ enough_again)
          ∙ ap (λ (b : List ℕ). Some (kept b, drop n (drop (length h + 4) (s ++ u)))) front
          ∙ ap (λ (i : Item). Some (i, drop n (drop (length h + 4) (s ++ u)))) (same_item _ f (drop n after) rest whole)
          ∙ ap (λ (r : List ℕ). Some (f, r)) (drop-drop n (length h + 4) (s ++ u));
    })
    (λ (no : nat_le n (length after) ≡ false). absurd (not_none (f, rest) (sym (cond-false _ _ None no) ∙ e)))
    (cases_Bool (nat_le n (length after)))

end_parts : (s : List ℕ) (r : Option ℕ) (f : Item) (rest : List ℕ) → end_of s ≡ r → with_end r s ≡ Some (f, rest) → IsPart first_frame s rest f
end_parts s None f rest is e =
    ⊎_elim (λ (t : nat_le most_read (length s) ≡ true).
    let long : most_read ≤ length s = leb-true _ _ t in
    let h : List ℕ = take most_header s in
    let size : length h ≡ most_header = length-take-le most_header s (omega (arith, long)) in
    let bounds = passed_long_bounds h (last_length h) refl (omega (arith, size)) in
    let count : ℕ = passed_long (last_length h) in
    let whole = sym (cond-true (nat_le most_read (length s)) (Some (malformed, drop count s)) None t) ∙ e in
    record {
      count = count;
      some = bounds.0;
      within = omega (arith, bounds.1, long);
      is = sym (same_rest malformed f (drop count s) rest whole);
      again = λ u.
          let window : take most_read (s ++ u) ≡ take most_read s = take-append-le most_read s u long in
          let header : take most_header (s ++ u) ≡ h = take-append-le most_header s u (omega (arith, long)) in
          let none : end_of (s ++ u) ≡ None = ap (λ (w : List ℕ). first_of (matches w empty_line 0)) window ∙ is in
          let more = length-append s u in
          ap (λ (o : Option ℕ). with_end o (s ++ u)) none
          ∙ cond-true _ (Some (malformed, drop (passed_long (last_length (take most_header (s ++ u)))) (s ++ u))) None (le-leb _ _ (omega (arith, long, more)))
          ∙ ap (λ (x : List ℕ). Some (malformed, drop (passed_long (last_length x)) (s ++ u))) header
          ∙ ap (λ (i : Item). Some (i, drop count (s ++ u))) (same_item malformed f (drop count s) rest whole);
    })
    (λ (no : nat_le most_read (length s) ≡ false). absurd (not_none (f, rest) (sym (cond-false _ _ None no) ∙ e)))
    (cases_Bool (nat_le most_read (length s)))
end_parts s (Some k) f rest is e =
    let within = end_within s k is in
    let part = length_parts s k (length_of (take k s)) f rest within.1 e in
    record {
      count = part.count;
      some = part.some;
      within = part.within;
      is = part.is;
      again = λ u.
          let end : end_of (s ++ u) ≡ Some k = same_end s (s ++ u) k is (sym (take-append-le (k + 4) s u within.1)) in
          let header : take k (s ++ u) ≡ take k s = take-append-le k s u (omega (arith, within.1)) in
          ap (λ (o : Option ℕ). with_end o (s ++ u)) end ∙ ap (λ (h : List ℕ). with_length (length_of h) h (s ++ u)) header ∙ part.again u;
    }

-- the first frame is a part of the stream
pub frame_part : (s : List ℕ) (f : Item) (rest : List ℕ) → first_frame s ≡ Some (f, rest) → IsPart first_frame s rest f
frame_part s f rest e = end_parts s (end_of s) f rest refl e

pub frame_again : (s t : List ℕ) (f : Item) (rest : List ℕ) → first_frame s ≡ Some (f, rest) → first_frame (s ++ t) ≡ Some (f, rest ++ t)
frame_again s t f rest e =
    let part = frame_part s f rest e in
    let longer : drop part.count (s ++ t) ≡ rest ++ t = drop-append-le part.count s t part.within ∙ ap (λ (l : List ℕ). l ++ t) (sym part.is) in
    part.again t ∙ ap (λ (r : List ℕ). Some (f, r)) longer

pub frame_shorter : (s : List ℕ) (f : Item) (rest : List ℕ) → first_frame s ≡ Some (f, rest) → length rest < length s
frame_shorter s f rest e =
    let part = frame_part s f rest e in
    let size = length-drop part.count s in
    omega (arith, part.some, part.within, size, ap length part.is)
