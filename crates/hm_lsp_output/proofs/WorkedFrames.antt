-- Worked examples of frames, by computing.
use Rattle.std.proofs.Common.{◌≡◌, ◌∙◌, ◌∷◌, ◌++◌, [], ℕ, List, Some, ap, arith, codes, false, get_or, refl, sym}
use Rattle.std.proofs.lemmas.Fmt.{decimal_digit}
use Rattle.serde_json.proofs.OnLiterals.{serde_json_on_literals}
use Rattle.serde_json.specs.Data.{null}
use Rattle.serde_json.specs.Read.{read}
use Rattle.serde_json.specs.Written.{compact_text, has_float}
use Rattle.hm_lsp_frames.specs.Frames.{empty_line, framed}
use Rattle.hm_lsp_output.specs.Frames.{IsFrameOf}
use Rattle.hm_lsp_output.specs.Worked.{FramesRow}

text_is : compact_text null ≡ codes "null"
unfolding serde_json_on_literals
text_is = refl

read_is : read (codes "null") ≡ Some null
unfolding serde_json_on_literals
read_is = refl

frame_is : codes "Content-Length: 4\r\n\r\nnull" ≡ framed (codes "null")
frame_is = ap (λ (d : List ℕ). codes "Content-Length: " ++ (d ++ (empty_line ++ codes "null"))) (sym (decimal_digit 4 (omega arith)))

no_float : has_float null ≡ false
no_float = refl

of_null : IsFrameOf null (codes "Content-Length: 4\r\n\r\nnull")
of_null = record { text = codes "null"; whole = frame_is; compact = λ none. sym text_is; reads_back = λ low. read_is }

not_shorter : IsFrameOf null (codes "Content-Length: 3\r\n\r\nnull") → ⊥
not_shorter h =
    let own = h.whole ∙ ap framed (h.compact no_float ∙ text_is) ∙ sym frame_is in
    let same : 51 ≡ 52 = ap (λ (l : List ℕ). get_or l 16 0) own in
    omega (arith, same)

nothing_cons : (x : ℕ) (xs : List ℕ) → [] ≡ x ∷ xs → ⊥
nothing_cons x xs e = cc

some_first : (first later : List ℕ) → [] ≡ first ++ later → IsFrameOf null first → ⊥
some_first [] later none is = let same : 0 ≡ 67 = ap (λ (l : List ℕ). get_or l 0 0) is.whole in omega (arith, same)
some_first (x ∷ xs) later none is = nothing_cons x (xs ++ later) none

pub worked_frames : FramesRow
worked_frames = record {
  one = of_null;
  two = (codes "Content-Length: 4\r\n\r\nnull", (codes "Content-Length: 4\r\n\r\nnull", (refl, (of_null, (codes "Content-Length: 4\r\n\r\nnull", ([], (refl, (of_null, refl))))))));
  not_shorter = not_shorter;
  not_missing = λ (first, (later, (whole, (is, are)))). some_first first later whole is;
}
