-- Worked examples, by computing.
use Rattle.std.proofs.Common.{◌≡◌, ◌+◌, List, ℕ, [], ap, arith, codes, length, refl}
use Rattle.memchr.proofs.Computing.{computing}
use Rattle.hm_lsp_frames.specs.Worked.{BodiesRow, MalformedRow}
use Rattle.hm_lsp_frames.specs.Frames.{body, malformed}
use Rattle.hm_lsp_frames.proofs.Parts.{same_rest}

differ : (a b : List ℕ) → a ≡ b → length a ≡ length b + 1 → ⊥
differ a b same more = omega (arith, ap length same, more)

pub worked_bodies : BodiesRow
unfolding computing
worked_bodies = record {
  body_with_rest = refl;
  any_case = refl;
  missing_byte = refl;
  no_empty_line = refl;
  not_whole = λ e. differ (codes "}") [] (same_rest (body (codes "{")) (body (codes "{}")) (codes "}") [] e) refl;
}

pub worked_malformed : MalformedRow
unfolding computing
worked_malformed = record {
  two_lengths = refl;
  no_number = refl;
  no_length = refl;
  lost_bytes = refl;
  not_eaten = λ e. differ (codes "C") [] (same_rest malformed malformed (codes "C") [] e) refl;
}
