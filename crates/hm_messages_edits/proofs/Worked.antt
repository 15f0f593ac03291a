-- Worked examples of edits.
use Rattle.std.proofs.Common.{◌≡◌, codes, length, refl, ap, arith}
use Rattle.std.specs.Prelude.{slice_index}
use Rattle.hm_messages_edits.specs.Worked.{EditsRow, SignatureRow}

pub worked_edits : EditsRow
worked_edits = record {
  exchanged = refl;
  left_out = refl;
  bracketed = refl;
  bare = λ e. let n : 9 ≡ 5 = ap length e in absurd (omega (arith, n));
  no_argument = refl;
}

pub worked_signatures : SignatureRow
worked_signatures = record {
  text = refl;
  ends = refl;
  alone = (codes " A", refl);
  not_alone = λ h. let n : 44 ≡ 32 = ap (λ l. slice_index l 1) h.1 in absurd (omega (arith, n));
}
