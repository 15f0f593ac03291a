-- A worked example of what is written of a name, by computing.
use Rattle.std.proofs.Common.{◌≡◌, ◌<◌, ◌≤◌, ℕ, zero, suc, true, false, arith, codes, refl, sym, ◌∙◌}
use Rattle.std.specs.Prelude.{slice_index}
use Rattle.std.proofs.lemmas.Bool.{false≢true}
use Rattle.hm_lex.specs.Bytes.{class_of}
use Rattle.hm_lsp_results.specs.Completions.{IsNameStart, is_of_name}
use Rattle.hm_lsp_results.specs.Worked.{WrittenRow}

letters : (i : ℕ) → 1 ≤ i → i < 4 → is_of_name (slice_index (codes "=A.g") i) ≡ true
unfolding class_of
letters zero low high = absurd (omega (arith, low))
letters (suc zero) low high = refl
letters (suc (suc zero)) low high = refl
letters (suc (suc (suc zero))) low high = refl
letters (suc (suc (suc (suc i)))) low high = absurd (omega (arith, high))

sign : is_of_name (slice_index (codes "=A.g") 0) ≡ false
unfolding class_of
sign = refl

dot : is_of_name (slice_index (codes "=A.g") 2) ≡ true
unfolding class_of
dot = refl

pub worked_written : WrittenRow
worked_written = record {
  qualified = record { ordered = omega arith; named = letters; longest = λ after. sign };
  not_bare = λ h. false≢true (sym (h.longest (omega arith)) ∙ dot);
  not_more = λ h. false≢true (sym sign ∙ h.named 0 (omega arith) (omega arith));
}
