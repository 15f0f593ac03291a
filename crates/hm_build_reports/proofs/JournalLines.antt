-- One line more of a journal's text.
use Rattle.std.proofs.Common.{◌≡◌, ℕ, ◌+◌, ◌<◌, Bool, true, false, cond, List, [], ◌∷◌, ◌++◌, length, take, get_or, count_by, sym, ap, ◌∙◌, arith}
use Rattle.std.proofs.lemmas.List.{append-nil, append_assoc, take_more}
use Rattle.std.proofs.lemmas.List.Sums.{sum_by-append, sum_by-cons}
use Rattle.hm_verdicts.specs.Sets.{ModuleSet}
use Rattle.hm_store.specs.Objects.{is_publication, publications}
use Rattle.hm_store.specs.declared.object.Entry.{Entry}
use Rattle.hm_build_reports.specs.Journals.{entry_line, entry_lines}

one_more : (p : ModuleSet) (n : ℕ) (es : List Entry) (e : Entry) → entry_lines p n (es ++ e ∷ []) ≡ entry_lines p n es ++ entry_line p (n + count_by is_publication es) e
one_more p n [] e =
    let none : n ≡ n + 0 = omega arith in
    append-nil (entry_line p n e) ∙ ap (λ k. entry_line p k e) none
one_more p n (d ∷ es) e =
    let sums : (n + cond (is_publication d) 1 0) + count_by is_publication es ≡ n + count_by is_publication (d ∷ es) = let s = sum_by-cons (λ (x : Entry). cond (is_publication x) 1 0) d es in omega (arith, s) in
    ap (λ xs. entry_line p n d ++ xs) (one_more p (n + cond (is_publication d) 1 0) es e ∙ ap (λ k. entry_lines p (n + cond (is_publication d) 1 0) es ++ entry_line p k e) sums)
    ∙ sym (append_assoc (entry_line p n d) (entry_lines p (n + cond (is_publication d) 1 0) es) (entry_line p (n + count_by is_publication (d ∷ es)) e))

-- the line of the entry with the number i, behind the lines before it
pub next_line : (p : ModuleSet) (es : List Entry) (i : ℕ) (d : Entry) → i < length es → entry_lines p 0 (take (i + 1) es) ≡ entry_lines p 0 (take i es) ++ entry_line p (publications es i) (get_or es i d)
next_line p es i d lt =
    let zero_first : 0 + count_by is_publication (take i es) ≡ publications es i = omega arith in
    ap (entry_lines p 0) (take_more es i d lt) ∙ (one_more p 0 (take i es) (get_or es i d) ∙ ap (λ k. entry_lines p 0 (take i es) ++ entry_line p k (get_or es i d)) zero_first)

-- and the publications behind it
next_count : (es : List Entry) (i : ℕ) (d : Entry) → i < length es → count_by is_publication (take (i + 1) es) ≡ count_by is_publication (take i es) + cond (is_publication (get_or es i d)) 1 0
next_count es i d lt =
    let one = sum_by-append (λ (x : Entry). cond (is_publication x) 1 0) (take i es) (get_or es i d ∷ []) in
    let last = sum_by-cons (λ (x : Entry). cond (is_publication x) 1 0) (get_or es i d) [] in
    ap (count_by is_publication) (take_more es i d lt) ∙ omega (arith, one, last)

-- both, as a walk over the entries keeps them
pub next_step : (p : ModuleSet) (es : List Entry) (i : ℕ) (d e : Entry) (text more : List ℕ) (n m : ℕ) → i < length es → e ≡ get_or es i d → text ≡ entry_lines p 0 (take i es) → n ≡ count_by is_publication (take i es) → more ≡ text ++ entry_line p n e
    → m ≡ n + cond (is_publication e) 1 0 → (more ≡ entry_lines p 0 (take (i + 1) es)) × (m ≡ count_by is_publication (take (i + 1) es))
next_step p es i d e text more n m lt is so counted here plus = (
  here ∙ (ap (λ l. l ++ entry_line p n e) so ∙ (ap (λ k. entry_lines p 0 (take i es) ++ entry_line p k e) counted ∙ (ap (λ x. entry_lines p 0 (take i es) ++ entry_line p (count_by is_publication (take i es)) x) is ∙ sym (next_line p es i d lt)))),
  plus ∙ (ap (λ k. k + cond (is_publication e) 1 0) counted ∙ (ap (λ x. count_by is_publication (take i es) + cond (is_publication x) 1 0) is ∙ sym (next_count es i d lt))),
)

pub counted_up : (b : Bool) (n m : ℕ) → b ≡ true → m ≡ n + 1 → m ≡ n + cond b 1 0
counted_up true n m h e = e
counted_up false n m h e = absurd (cc)

pub counted_same : (b : Bool) (n m : ℕ) → b ≡ false → m ≡ n → m ≡ n + cond b 1 0
counted_same true n m h e = absurd (cc)
counted_same false n m h e = omega (arith, e)
