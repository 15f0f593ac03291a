-- The worked examples of parts.
use Rattle.std.proofs.Common.{◌≡◌, ℕ, ◌<◌, List, [], ◌∷◌, ◌++◌, length, get_or, refl, ap, arith, codes, length-append}
use Rattle.hm_lex.specs.declared.token.Token.{Token}
use Rattle.hm_lex.specs.Cut.{text_of, shape_of, is_opening, text_depth}
use Rattle.hm_lex.proofs.OneShape.{shape_positive}
use Rattle.hm_run_tokens.specs.Parts.{EndsLine, IsClosed}
use Rattle.hm_run_tokens.specs.Worked.{PartsRow}

no_line : EndsLine (codes "{") → ⊥
no_line ([], e) = omega (arith, ap (λ l. get_or l 0 0) e)
no_line (x ∷ xs, e) = omega (arith, ap length e, length-append xs (10 ∷ []))

-- the text of a first piece of one byte
one_byte : (t u : List ℕ) (b : ℕ) → 0 < length t → (t ++ u) ++ [] ≡ b ∷ [] → (t ≡ b ∷ []) × (length u ≡ 0)
one_byte [] u b lt e = absurd (omega (arith, lt))
one_byte (x ∷ []) u b lt e = (let f : x ≡ b = cc in cc, omega (arith, ap length e, length-append u []))
one_byte (x ∷ y ∷ t) u b lt e = absurd (omega (arith, ap length e, length-append (t ++ u) [], length-append t u))

brace_depth : text_depth 0 (123 ∷ []) ≡ 1
unfolding is_opening
brace_depth = refl

still_open : IsClosed (codes "{") → ⊥
still_open ([], cut, none) = omega (arith, ap length cut.joined)
still_open (p ∷ [], cut, none) =
    let one = one_byte p.text (text_of []) 123 (shape_positive (shape_of p.item) p.text cut.longest.0.has) cut.joined in
    omega (arith, none, ap (text_depth 0) one.0, brace_depth)
still_open (p ∷ q ∷ qs, cut, none) =
    let one = one_byte p.text (text_of (q ∷ qs)) 123 (shape_positive (shape_of p.item) p.text cut.longest.0.has) cut.joined in
    omega (arith, one.1, shape_positive (shape_of q.item) q.text cut.longest.1.0.has, length-append q.text (text_of qs))

pub parts_row : PartsRow
parts_row = record {
  after_lines = refl;
  not_in_place = λ e. omega (arith, ap (λ (t : Token). t.start) e);
  line = (123 ∷ [], refl);
  no_line = no_line;
  nothing_open = ([], record { joined = refl; longest = tt }, refl);
  still_open = still_open;
}
