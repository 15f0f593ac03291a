-- The worked marks, escapes and columns.
use Rattle.std.proofs.Common.{◌≡◌, ℕ, zero, suc, ◌+◌, ◌≤◌, All, false, List, [], ◌∷◌, ◌++◌, length, take, drop, refl, sym, ap, arith, ◌∙◌}
use Rattle.std.specs.Prelude.{codes}
use Rattle.std.proofs.lemmas.List.{drop_at, length-append, take_at}
use Rattle.std.proofs.lemmas.List.Elements.{All-from_recursion}
use Rattle.hm_lex.specs.Bytes.{class_of}
use Rattle.hm_lex.specs.Cut.{is_line_end, place_after}
use Rattle.hm_messages_excerpts.specs.Columns.{AreColumnsAt, characters}
use Rattle.hm_messages_excerpts.specs.Escapes.{shown_after}
use Rattle.hm_messages_excerpts.specs.Worked.{ColumnsRow, EscapesRow, MarksRow, pictured, at_name}

pub worked_marks : MarksRow
unfolding class_of
worked_marks = record {
  name = refl;
  symbols = refl;
  bracket = refl;
  line_end = refl;
  no_more = λ e. omega (arith, e);
}

pub worked_escapes : EscapesRow
unfolding shown_after
worked_escapes = record {
  tabs = refl;
  none = refl;
  not_raw = λ e. let long : 4 ≡ 1 = ap length e in omega (arith, long);
}

other_not : (k : ℕ) → k ≤ 1 → (place_after (take k pictured)).column ≡ 1 → 7 ≡ characters (take 6 (drop k pictured)) + 1 → ⊥
other_not zero h b c = let three : 7 ≡ 3 = c in omega (arith, three)
other_not (suc zero) h b c = let two : 2 ≡ 1 = b in omega (arith, two)
other_not (suc (suc k)) h b c = absurd (omega (arith, h))

not_bytes : AreColumnsAt pictured at_name (record { bytes = 7; characters = 7; utf16 = 4 }) → ⊥
not_bytes h =
    let k : ℕ = length h.line.before in
    let rest = h.back ++ h.line.after in
    let long : 7 ≡ k + (length h.front + length rest) = ap length h.line.whole ∙ (length-append h.line.before (h.front ++ rest) ∙ ap (λ n. k + n) (length-append h.front rest)) in
    let six : length h.front ≡ 6 = omega (arith, h.bytes_are) in
    let before : take k pictured ≡ h.line.before = ap (take k) h.line.whole ∙ take_at h.line.before (h.front ++ rest) k refl in
    let behind : drop k pictured ≡ h.front ++ rest = ap (drop k) h.line.whole ∙ drop_at h.line.before (h.front ++ rest) k refl in
    let front : take 6 (drop k pictured) ≡ h.front = ap (take 6) behind ∙ take_at h.front rest 6 six in
    other_not k (omega (arith, long, six)) (ap (λ (l : List ℕ). (place_after l).column) before ∙ h.line.begins) (h.characters_are ∙ ap (λ (l : List ℕ). characters l + 1) (sym front))

plain : All (λ b. is_line_end b ≡ false) (take 6 pictured)
plain = All-from_recursion (λ b. is_line_end b ≡ false) (take 6 pictured) (refl, (refl, (refl, (refl, (refl, (refl, tt))))))

pub worked_columns : ColumnsRow
worked_columns = record {
  name = record {
    front = take 6 pictured;
    back = codes "y";
    line = record {
      before = [];
      after = [];
      whole = refl;
      placed = refl;
      begins = refl;
      ends = λ more. absurd (omega (arith, more));
      front_plain = plain;
      back_plain = All-from_recursion (λ b. is_line_end b ≡ false) (codes "y") (refl, tt);
    };
    bytes_are = refl;
    characters_are = refl;
    utf16_are = refl;
  };
  from_one = λ h. omega (arith, h.characters_are);
  other = not_bytes;
}
