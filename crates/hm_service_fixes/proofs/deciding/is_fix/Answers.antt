use Rattle.std.proofs.Common.{inl, inr}
use Rattle.std.proofs.lemmas.Bool.{cases_Bool}
use Rattle.hm_service_fixes.proofs.deciding.is_fix.Goals as goal

pub returns : goal.returns
returns c = (
  λ set. record {
    checked = c.if-not-after.false;
    gone = λ x g h. (c.are_all_fine.ensures.yes set x g h).0;
    accepted = c.are_kept.ensures.yes c.if-not-are_kept.false;
    known = λ x g h. (c.are_all_fine.ensures.yes set x g h).1;
    skips = c.are_skips_known.ensures.yes c.if-not-are_skips_known.false;
  },
  λ fix. elim (cases_Bool c.are_all_fine.result) [
    | inl set ↦ set
    | inr clear ↦ absurd (c.are_all_fine.ensures.no clear (λ x g h. (fix.gone x g h, fix.known x g h)))
  ],
)
