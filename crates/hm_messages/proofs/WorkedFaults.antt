-- The worked examples of further faults, and of modules of one name.
use Rattle.std.specs.Prelude.{⊤, codes}
use Rattle.std.proofs.Common.{◌≡◌, ◌∙◌, ℕ, List, [], ◌∷◌, ap, arith, refl, subst, sym}
use Rattle.std.proofs.lemmas.List.Elements.{All-cons, All-nil}
use Rattle.hm_lex.specs.declared.token.LexFault.TheVariants.{Lexeme}
use Rattle.hm_run_sources.specs.Refusals.{Refusal, lex}
use Rattle.hm_run_sources.specs.declared.located.Located.{Located}
use Rattle.hm_messages.specs.Worked.{FurtherRow, TwinRow}

abbrev HasAny : List Refusal → Type 0
HasAny [] = ⊥
HasAny (r ∷ rs) = ⊤

pub worked_faults : FurtherRow
worked_faults = record {
  third = λ s t modules p spelled refused. ([], lex 3 (Lexeme p) ∷ [], (modules, spelled), (lex 3 (Lexeme p) ∷ [], [], (((refl, refused), tt), ([], tt, refl)), refl, refl), refl);
  none_left = λ p e. subst HasAny e tt;
  none_after = λ s p q e. subst HasAny e tt;
}

first_letter : List ℕ → ℕ
first_letter [] = 0
first_letter (x ∷ xs) = x

no_c : (l : Located) (x : List ℕ) → l.header.name.text ≡ x → ¬ (first_letter x ≡ 67) → ¬ (l.header.name.text ≡ codes "C")
unfolding first_letter
no_c l x is other e = other (ap first_letter (sym is ∙ e))

pub worked_twins : TwinRow
unfolding first_letter
worked_twins = record {
  second = λ a b is. ((1, omega arith, refl), is);
  other = λ a b is h. let letters : 65 ≡ 66 = ap first_letter (sym is ∙ h.1) in omega (arith, letters);
  none_there = λ a b first second. All-cons (λ (l : Located). ¬ (l.header.name.text ≡ codes "C")) a (b ∷ []) (no_c a (codes "A") first (λ e. omega (arith, e)))
      (All-cons (λ (l : Located). ¬ (l.header.name.text ≡ codes "C")) b [] (no_c b (codes "B") second (λ e. omega (arith, e))) (All-nil (λ (l : Located). ¬ (l.header.name.text ≡ codes "C"))));
}
