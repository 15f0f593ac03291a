-- Starts of lines.
use Rattle.std.proofs.Common.{◌≡◌, ℕ, zero, suc, ◌+◌, ◌-◌, ◌<◌, ◌≤◌, Bool, true, false, nat_eq, ◌&&◌, List, Option, Some, None, length, take, drop, get_or, refl, sym, ap, subst, ◌∙◌, arith, ⊎_elim, if◌then◌else◌}
use Rattle.std.specs.Prelude.{IfSome, option_map}
use Rattle.std.proofs.lemmas.Bool.{and_from, and_parts, cases_lt, cond-false, cond-true, eq-eqb, eqb-true, false_from_ne_true, false≢true, lt-ltb, ltb-true}
use Rattle.std.proofs.lemmas.List.{drop-drop, get_or_past, take_rest}
use Rattle.std.proofs.lemmas.List.Sums.{position_or_len_is}
use Rattle.memchr.specs.Find.{IsFirstByte, is_byte2}
use Rattle.hm_lsp_positions.specs.Lines.{is_line_end, line_length, line_start, whole_length}

pub length_found : (text : List ℕ) (k : ℕ) → IsFirstByte (is_byte2 10 13) text (Some k) → k ≡ line_length text
length_found text k h =
    let first = h.0 in
    let high = first.high in
    let low = first.before in
    sym (position_or_len_is is_line_end text k 0 (omega (arith, high)) (λ i l. false_from_ne_true _ (low i (omega arith) l)) (λ _. h.1))

pub length_whole : (text : List ℕ) → IsFirstByte (is_byte2 10 13) text None → length text ≡ line_length text
length_whole text h = sym (position_or_len_is is_line_end text (length text) 0 (omega arith) (λ i l. false_from_ne_true _ (h i (omega arith) l)) (λ l. let never : ⊥ = omega (arith, l) in absurd never))

abbrev is_pair : List ℕ → ℕ → Bool
is_pair text n = nat_eq (get_or text n 0) 13 && nat_eq (get_or text (n + 1) 0) 10

one_byte : (text : List ℕ) (n : ℕ) → n ≡ line_length text → (is_pair text n ≡ true → ⊥) → n + 1 ≡ whole_length text
one_byte text n is none =
    sym (ap (λ (k : ℕ). if is_pair text k then k + 2 else k + 1) (sym is) ∙ cond-false _ _ _ (false_from_ne_true _ none))

pub one_other : (text : List ℕ) (n : ℕ) → n ≡ line_length text → (get_or text n 0 ≡ 13 → ⊥) → n + 1 ≡ whole_length text
one_other text n is none = one_byte text n is (λ t. none (eqb-true (get_or text n 0) 13 (and_parts (nat_eq (get_or text n 0) 13) (nat_eq (get_or text (n + 1) 0) 10) t).0))

pub one_alone : (text : List ℕ) (n : ℕ) → n ≡ line_length text → (get_or text (n + 1) 0 ≡ 10 → ⊥) → n + 1 ≡ whole_length text
one_alone text n is none = one_byte text n is (λ t. none (eqb-true (get_or text (n + 1) 0) 10 (and_parts (nat_eq (get_or text n 0) 13) (nat_eq (get_or text (n + 1) 0) 10) t).1))

pub one_last : (text : List ℕ) (n : ℕ) → n ≡ line_length text → length text - n < 2 → n + 1 ≡ whole_length text
one_last text n is short =
    one_alone text n is (λ same. let past = get_or_past text (n + 1) 0 (omega (arith, short)) in let never : ⊥ = omega (arith, past, same) in never)

pub two_bytes : (text : List ℕ) (n : ℕ) → n ≡ line_length text → get_or text n 0 ≡ 13 → get_or text (n + 1) 0 ≡ 10 → n + 2 ≡ whole_length text
two_bytes text n is first second =
    sym (ap (λ (k : ℕ). if is_pair text k then k + 2 else k + 1) (sym is) ∙ cond-true _ _ _ (and_from _ _ (eq-eqb _ _ first) (eq-eqb _ _ second)))

pub next_none : (text : List ℕ) → length text ≤ line_length text → None ≡ line_start 1 text
unfolding line_start
next_none text ends = sym (cond-false _ _ _ (false_from_ne_true _ (λ t. let less = ltb-true (line_length text) (length text) t in let never : ⊥ = omega (arith, less, ends) in never)))

pub next_some : (text : List ℕ) (k : ℕ) → line_length text < length text → k ≡ whole_length text → Some k ≡ line_start 1 text
unfolding line_start
next_some text k less is =
    let same : k ≡ whole_length text + 0 = omega (arith, is) in
    ap Some same ∙ sym (cond-true _ (Some (whole_length text + 0)) None (lt-ltb _ _ less))

value_or : ℕ → Option ℕ → ℕ
value_or d None = d
value_or d (Some k) = k

pub same_value : (a b : ℕ) → Some a ≡ Some b → a ≡ b
unfolding value_or
same_value a b same = ap (value_or 0) same

is_there : Option ℕ → Bool
is_there None = false
is_there (Some k) = true

pub none_some : (k : ℕ) → ◌≡◌ {A = Option ℕ} None (Some k) → ⊥
unfolding is_there
none_some k same = false≢true (ap is_there same)

moved_twice : (a b : ℕ) (o : Option ℕ) → option_map (λ k. a + k) (option_map (λ k. b + k) o) ≡ option_map (λ k. (a + b) + k) o
moved_twice a b None = refl
moved_twice a b (Some k) = ap Some (omega arith)

pub start_zero : (text : List ℕ) → line_start 0 text ≡ Some 0
unfolding line_start
start_zero text = refl

pub start_suc : (n : ℕ) (text : List ℕ) → line_length text < length text → line_start (suc n) text ≡ option_map (λ k. whole_length text + k) (line_start n (drop (whole_length text) text))
unfolding line_start
start_suc n text less = cond-true _ _ _ (lt-ltb _ _ less)

pub start_end : (n : ℕ) (text : List ℕ) → length text ≤ line_length text → line_start (suc n) text ≡ None
unfolding line_start
start_end n text ends = cond-false _ _ _ (false_from_ne_true _ (λ t. let less = ltb-true (line_length text) (length text) t in let never : ⊥ = omega (arith, less, ends) in never))

-- the line after a line is the second one of the text that begins with that line
pub start_next : (n : ℕ) (text : List ℕ) (k : ℕ) → line_start n text ≡ Some k → line_start (n + 1) text ≡ option_map (λ j. k + j) (line_start 1 (drop k text))
start_next zero text k is =
    let first : 0 ≡ k = same_value 0 k (sym (start_zero text) ∙ is) in
    let one : 0 + 1 ≡ 1 = omega arith in
    ap (λ (n : ℕ). line_start n text) one ∙ moved_zero (line_start 1 text) ∙ ap (λ (i : ℕ). option_map (λ j. i + j) (line_start 1 (drop i text))) first
  where
    moved_zero : (o : Option ℕ) → o ≡ option_map (λ j. 0 + j) o
    moved_zero None = refl
    moved_zero (Some j) = ap Some (omega arith)
start_next (suc n) text k is =
    ⊎_elim (λ (less : line_length text < length text).
    let w : ℕ = whole_length text in
    let more : suc n + 1 ≡ suc (n + 1) = omega arith in
    let here = start_moved w (line_start n (drop w text)) (sym (start_suc n text less) ∙ is) in
    ap (λ (i : ℕ). line_start i text) more ∙ start_suc (n + 1) text less ∙ ap (option_map (λ j. w + j)) (start_next n (drop w text) here.0 here.1)
    ∙ moved_twice w here.0 (line_start 1 (drop here.0 (drop w text)))
    ∙ ap (λ (t : List ℕ). option_map (λ j. (w + here.0) + j) (line_start 1 t)) (drop-drop here.0 w text)
    ∙ ap (λ (i : ℕ). option_map (λ j. i + j) (line_start 1 (drop i text))) here.2)
    (λ (ends : length text ≤ line_length text). absurd (none_some k (sym (start_end n text ends) ∙ is)))
    (cases_lt (line_length text) (length text))
  where
    start_moved : (w : ℕ) (o : Option ℕ) → option_map (λ j. w + j) o ≡ Some k → (j : ℕ) × (o ≡ Some j) × (w + j ≡ k)
    start_moved w None same = absurd (none_some k same)
    start_moved w (Some j) same = (j, refl, same_value (w + j) k same)

-- no line follows where there is none
pub start_none : (n m : ℕ) (text : List ℕ) → line_start n text ≡ None → line_start (n + m) text ≡ None
start_none zero m text is = absurd (none_some 0 (sym is ∙ start_zero text))
start_none (suc n) m text is =
    let more : suc n + m ≡ suc (n + m) = omega arith in
    ⊎_elim (λ (less : line_length text < length text).
    let w : ℕ = whole_length text in
    let here = moved_none w (line_start n (drop w text)) (sym (start_suc n text less) ∙ is) in
    ap (λ (i : ℕ). line_start i text) more ∙ start_suc (n + m) text less ∙ ap (option_map (λ j. w + j)) (start_none n m (drop w text) here))
    (λ (ends : length text ≤ line_length text). ap (λ (i : ℕ). line_start i text) more ∙ start_end (n + m) text ends)
    (cases_lt (line_length text) (length text))
  where
    moved_none : (w : ℕ) (o : Option ℕ) → option_map (λ j. w + j) o ≡ None → o ≡ None
    moved_none w None same = refl
    moved_none w (Some j) same = absurd (none_some (w + j) (sym same))

pub next_start : (n k j : ℕ) (text : List ℕ) → line_start n text ≡ Some k → Some j ≡ line_start 1 (drop k text) → line_start (n + 1) text ≡ Some (k + j)
next_start n k j text is next = start_next n text k is ∙ ap (option_map (λ i. k + i)) (sym next)

pub no_next_start : (n k : ℕ) (text : List ℕ) → line_start n text ≡ Some k → None ≡ line_start 1 (drop k text) → line_start (n + 1) text ≡ None
no_next_start n k text is next = start_next n text k is ∙ ap (option_map (λ i. k + i)) (sym next)

pub never_start : (n line k : ℕ) (text : List ℕ) → n < line → line_start n text ≡ Some k → None ≡ line_start 1 (drop k text) → None ≡ line_start line text
never_start n line k text low is next =
    let count : (n + 1) + (line - (n + 1)) ≡ line = omega (arith, low) in
    sym (ap (λ (i : ℕ). line_start i text) (sym count) ∙ start_none (n + 1) (line - (n + 1)) text (no_next_start n k text is next))

-- the same for the part of a text as the code cuts it
abbrev pub cut : List ℕ → ℕ → List ℕ
cut text k = take (length text - k) (drop k text)

pub next_cut : (n k j : ℕ) (text : List ℕ) → line_start n text ≡ Some k → Some j ≡ line_start 1 (cut text k) → line_start (n + 1) text ≡ Some (k + j)
next_cut n k j text is next = next_start n k j text is (next ∙ ap (line_start 1) (take_rest text k))

pub no_next_cut : (n k : ℕ) (text : List ℕ) → line_start n text ≡ Some k → None ≡ line_start 1 (cut text k) → line_start (n + 1) text ≡ None
no_next_cut n k text is next = no_next_start n k text is (next ∙ ap (line_start 1) (take_rest text k))

pub never_cut : (n line k : ℕ) (text : List ℕ) → n < line → line_start n text ≡ Some k → None ≡ line_start 1 (cut text k) → None ≡ line_start line text
never_cut n line k text low is next = never_start n line k text low is (next ∙ ap (line_start 1) (take_rest text k))

pub after_last : (n k offset : ℕ) (o : Option ℕ) → o ≡ Some (k + n) → offset < k + n → IfSome o (λ next. offset < next)
after_last n k offset o is low = subst (λ (x : Option ℕ). IfSome x (λ next. offset < next)) (sym is) low

pub after_none : (offset : ℕ) (o : Option ℕ) → o ≡ None → IfSome o (λ next. offset < next)
after_none offset o is = subst (λ (x : Option ℕ). IfSome x (λ next. offset < next)) (sym is) tt
