-- Worked examples of changes.
use Rattle.std.proofs.Common.{◌≡◌, [], ◌∷◌, List, ℕ, codes, length, refl, ap, arith}
use Rattle.hm_messages_json.specs.Edits.{Changed}
use Rattle.hm_messages_rewrites.specs.Rewrites.{IsRewritten, IsWritten, is_written, is_far, is_rewritten, is_otherwise, is_outside, rewrite}
use Rattle.hm_messages_rewrites.specs.Worked.{RewritesRow, third}

abbrev text_length : List Changed → ℕ
text_length [] = 0
text_length (c ∷ cs) = length c.text

written : IsWritten third 1 [] (rewrite third 1 (codes "(") ∷ []) → ⊥
written (is_written e) = let n : 1 ≡ 0 = ap text_length e in omega (arith, n)
written (is_far e far) = omega (arith, ap length e)

left_out : IsRewritten (codes "f )") third (codes ")") [] (rewrite third 1 (codes "(") ∷ []) → ⊥
left_out (is_rewritten at h) = written h
left_out (is_otherwise e h) = omega (arith, ap length e)
left_out (is_outside e h) = omega (arith, ap length e)

pub worked_rewrites : RewritesRow
worked_rewrites = record {
  name = refl;
  word = refl;
  end = refl;
  nameless = refl;
  left_out = left_out;
}
