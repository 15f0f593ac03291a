-- The lines of a source, one after the other, and the places in them.
use Rattle.std.proofs.Common.{◌≡◌, ℕ, ◌+◌, ◌-◌, ◌<◌, ◌≤◌, false, List, [], ◌∷◌, ◌++◌, length, take, drop, get_or, refl, sym, ap, subst, ◌∙◌, arith, inl, inr}
use Rattle.std.proofs.lemmas.Bool.{cases_lt}
use Rattle.std.proofs.lemmas.List.{take-append-drop, take-take, drop-take, length-take-le, length-drop, length-append, length_push, get_or-drop, get_or_append_left, get_or_push, take_at, take_more, get_or_default}
use Rattle.std.proofs.lemmas.List.Elements.{All-take, recursion_from_All}
use Rattle.hm_lex.specs.declared.token.Place.{Place}
use Rattle.hm_lex.specs.Cut.{is_line_end, place_after}
use Rattle.hm_lex.specs.Scan.{place_step}
use Rattle.hm_lex.proofs.Places.{place, place_after_push}
use Rattle.hm_lex.proofs.OneLine.{place_along}
use Rattle.hm_messages_excerpts.specs.Excerpts.{IsPlaceIn}
use Rattle.hm_messages_excerpts.specs.Lines.{AreLinesBefore, AreLinesOf, IsCovered, IsLineAt, IsWithout}
use Rattle.hm_messages_excerpts.specs.declared.lines.Span.{Span}

pub take_add : (n m : ℕ) (xs : List ℕ) → take (n + m) xs ≡ take n xs ++ take m (drop n xs)
take_add n m xs = sym (take-append-drop n (take (n + m) xs)) ∙ ap (λ (l : List ℕ). l ++ drop n (take (n + m) xs)) (take-take n (n + m) xs (omega arith)) ∙ ap (λ (l : List ℕ). take n xs ++ l) (drop-take n m xs)

-- the place so many bytes behind a line's begin
pub place_along_line : (before text : List ℕ) (number : ℕ) → (place_after before).line ≡ number + 1 → (place_after before).column ≡ 1 → IsWithout is_line_end text
    → place_after (before ++ text) ≡ place (number + 1) (length text + 1)
place_along_line before text number line column plain =
    place_along text before (recursion_from_All (λ b. is_line_end b ≡ false) text plain)
    ∙ ap (λ (n : ℕ). place n ((place_after before).column + length text)) line
    ∙ ap (λ (n : ℕ). place (number + 1) n) (ap (λ (n : ℕ). n + length text) column ∙ omega arith)

plain_part : (n m : ℕ) (xs : List ℕ) → n ≤ m → IsWithout is_line_end (take m xs) → IsWithout is_line_end (take n xs)
plain_part n m xs low plain = subst (IsWithout is_line_end) (take-take n m xs low) (All-take (λ b. is_line_end b ≡ false) n (take m xs) plain)

pub place_within : (source : List ℕ) (start len n number : ℕ) → start + len ≤ length source → n ≤ len → (place_after (take start source)).line ≡ number + 1 → (place_after (take start source)).column ≡ 1
    → IsWithout is_line_end (take len (drop start source)) → place_after (take (start + n) source) ≡ place (number + 1) (n + 1)
place_within source start len n number within low line column plain =
    let long : length (take n (drop start source)) ≡ n = length-take-le n (drop start source) (omega (arith, length-drop start source)) in
    ap place_after (take_add start n source)
    ∙ place_along_line (take start source) (take n (drop start source)) number line column (plain_part n len (drop start source) low plain)
    ∙ ap (λ (k : ℕ). place (number + 1) (k + 1)) long

step_at_end : (p : Place) (b : ℕ) → b ≡ 10 → place_step p b ≡ place (p.line + 1) 1
step_at_end p b e = rw e refl

-- the place behind a line's end
pub place_behind : (source : List ℕ) (start len number : ℕ) → start + len < length source → (place_after (take start source)).line ≡ number + 1 → (place_after (take start source)).column ≡ 1
    → IsWithout is_line_end (take len (drop start source)) → get_or (drop start source) len 0 ≡ 10 → place_after (take (start + len + 1) source) ≡ place (number + 2) 1
place_behind source start len number within line column plain end =
    let last : get_or source (start + len) 0 ≡ 10 = sym (get_or-drop start source len 0) ∙ end in
    let here : place_after (take (start + len) source) ≡ place (number + 1) (len + 1) = place_within source start len len number (omega (arith, within)) (omega arith) line column plain in
    ap place_after (take_more source (start + len) 0 within)
    ∙ place_after_push (take (start + len) source) (get_or source (start + len) 0)
    ∙ step_at_end (place_after (take (start + len) source)) (get_or source (start + len) 0) last
    ∙ ap (λ (p : Place). place (p.line + 1) 1) here
    ∙ ap (λ (n : ℕ). place n 1) (omega arith)

-- one more line
pub lines_more : (source : List ℕ) (spans news : List Span) (start len : ℕ) → start + len ≤ length source → AreLinesBefore source spans start
    → (place_after (take start source)).line ≡ length spans + 1 → (place_after (take start source)).column ≡ 1 → IsWithout is_line_end (take len (drop start source))
    → (start + len < length source → get_or source (start + len) 0 ≡ 10) → news ≡ spans ++ (record { start = start; end = start + len }) ∷ [] → AreLinesBefore source news (start + len + 1)
lines_more source spans news start len within lines line column plain ends pushed =
    let span : Span = record { start = start; end = start + len } in
    let long : length news ≡ length spans + 1 = ap length pushed ∙ length_push spans span in
    let old : (k : ℕ) (d : Span) → k < length spans → get_or spans k d ≡ get_or news k d = λ k d low. sym (ap (λ (l : List Span). get_or l k d) pushed ∙ get_or_append_left spans (span ∷ []) d k low) in
    let new : (d : Span) → span ≡ get_or news (length spans) d = λ d. sym (ap (λ (l : List Span). get_or l (length spans) d) pushed ∙ get_or_push spans span d (length spans) refl) in
    let here : IsLineAt source (length spans) span = record {
      ordered = omega arith;
      within = within;
      line = line;
      column = column;
      plain = subst (λ n. IsWithout is_line_end (take n (drop start source))) (omega arith) plain;
      ends = ends;
    } in
    record {
      each = λ k d low. elim (cases_lt k (length spans)) [
        | inl before ↦ subst (IsLineAt source k) (old k d before) (lines.each k d before)
        | inr behind ↦ let same : length spans ≡ k = omega (arith, behind, low, long) in
            subst (λ j. IsLineAt source j (get_or news j d)) same (subst (IsLineAt source (length spans)) (new d) here)
      ];
      covered = λ at low. elim (cases_lt at start) [
        | inl before ↦ let found = lines.covered at before in
            (found.0, omega (arith, found.1, long), λ d. subst (λ (s : Span). (s.start ≤ at) × (at ≤ s.end)) (old found.0 d found.1) (found.2 d))
        | inr behind ↦ (length spans, omega (arith, long), λ d. subst (λ (s : Span). (s.start ≤ at) × (at ≤ s.end)) (new d) (omega (arith, behind), omega (arith, low)))
      ];
    }

-- where a place of the source stands in its lines
pub record IsFound (spans : List Span) (p : Place) : Type 0 where
  pub number : ℕ
  pub offset : ℕ
  pub inside : number < length spans
  pub line : p.line ≡ number + 1
  pub column : p.column ≡ offset + 1
  pub short : (d : Span) → offset + (get_or spans number d).start ≤ (get_or spans number d).end

pub found : (source : List ℕ) (spans : List Span) (p : Place) → AreLinesOf source spans → IsPlaceIn source p → IsFound spans p
found source spans p lines h =
    let at : ℕ = length h.before in
    let size : length source ≡ at + length h.after = ap length h.whole ∙ length-append h.before h.after in
    let none : Span = record { start = 0; end = 0 } in
    let there : IsCovered spans at = lines.covered at (omega (arith, size)) in
    let span : Span = get_or spans there.0 none in
    let is : IsLineAt source there.0 span = lines.each there.0 none there.1 in
    let low : span.start ≤ at = (there.2 none).0 in
    let high : at ≤ span.end = (there.2 none).1 in
    let where_it_is : place_after (take (span.start + (at - span.start)) source) ≡ place (there.0 + 1) ((at - span.start) + 1) =
    place_within source span.start (span.end - span.start) (at - span.start) there.0 (omega (arith, is.ordered, is.within)) (omega (arith, high)) is.line is.column is.plain in
    let front : take (span.start + (at - span.start)) source ≡ h.before =
    ap (λ (n : ℕ). take n source) (omega (arith, low)) ∙ ap (take at) h.whole ∙ take_at h.before h.after at refl in
    let same : p ≡ place (there.0 + 1) ((at - span.start) + 1) = h.placed ∙ ap place_after (sym front) ∙ where_it_is in
    record {
      number = there.0;
      offset = at - span.start;
      inside = there.1;
      line = ap (λ (q : Place). q.line) same;
      column = ap (λ (q : Place). q.column) same;
      short = λ d. omega (arith, low, high, ap (λ (s : Span). s.start) (get_or_default spans there.0 d none there.1), ap (λ (s : Span). s.end) (get_or_default spans there.0 d none there.1));
    }
