-- The worked examples of the order of notes.
use Rattle.std.proofs.Common.{◌≡◌, ◌∙◌, ℕ, List, [], ◌∷◌, ap, arith, cond, length, refl, sym}
use Rattle.hm_names.specs.declared.faults.Fault.{Fault}
use Rattle.hm_verdicts.specs.Reports.{is_skipped}
use Rattle.hm_verdicts.specs.Verdicts.{Status, Failed, Skipped}
use Rattle.hm_build_messages.specs.Explanations.{Numbered, skipped_among}
use Rattle.hm_build_messages.specs.WorkedOrder.{OrderRow}

kept : (status : ℕ → Status) (r : Numbered) (rs : List Numbered) → status r.number ≡ Skipped → skipped_among status (r ∷ rs) ≡ r ∷ skipped_among status rs
kept status r rs is = ap (λ (s : Status). cond (is_skipped s) (r ∷ skipped_among status rs) (skipped_among status rs)) is

left_out : (status : ℕ → Status) (r : Numbered) (rs : List Numbered) (found : List Fault) → status r.number ≡ Failed found → skipped_among status (r ∷ rs) ≡ skipped_among status rs
left_out status r rs found is = ap (λ (s : Status). cond (is_skipped s) (r ∷ skipped_among status rs) (skipped_among status rs)) is

pub worked_order : OrderRow
worked_order = record {
  skipped = λ status a b c found first second third.
      kept status a (b ∷ c ∷ []) first ∙ ap (λ rs. a ∷ rs) (left_out status b (c ∷ []) found second ∙ kept status c [] third);
  not_faulty = λ status b found is e. let long : 0 ≡ 1 = ap length (sym (left_out status b [] found is) ∙ e) in omega (arith, long);
  reader = refl;
  program = refl;
  few = refl;
  not_all = λ e. omega (arith, e);
}
