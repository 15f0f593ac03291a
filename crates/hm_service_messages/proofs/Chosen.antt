-- Chosen diagnostics, with one more at the end.
use Rattle.std.proofs.Common.{◌≡◌, ℕ, ◌+◌, ◌<◌, Bool, true, false, List, [], ◌∷◌, ◌++◌, length, take, get_or, ◌↔◌, inl, inr, refl, sym, ap, subst, ◌∙◌}
use Rattle.std.proofs.lemmas.Bool.{cases_Bool, both_ways}
use Rattle.std.proofs.lemmas.List.{take_more}
use Rattle.hm_service_messages.specs.Choices.{AreChosen}
use Rattle.hm_service_messages.specs.declared.diagnostic.Diagnostic.{Diagnostic}

push_yes : (P : Diagnostic → Type 0) (ds : List Diagnostic) (d : Diagnostic) (chosen : List Diagnostic) → AreChosen P ds chosen → P d → AreChosen P (ds ++ d ∷ []) (chosen ++ d ∷ [])
push_yes P [] d chosen h p = inl (p, ([], (ap (λ (l : List Diagnostic). l ++ d ∷ []) h, refl)))
push_yes P (e ∷ ds) d chosen h p = elim h [
  | inl w ↦ inl (w.0, (w.1.0 ++ d ∷ [], (ap (λ (l : List Diagnostic). l ++ d ∷ []) w.1.1.0, push_yes P ds d w.1.0 w.1.1.1 p)))
  | inr w ↦ inr (w.0, push_yes P ds d chosen w.1 p)
]

push_no : (P : Diagnostic → Type 0) (ds : List Diagnostic) (d : Diagnostic) (chosen : List Diagnostic) → AreChosen P ds chosen → (P d → ⊥) → AreChosen P (ds ++ d ∷ []) chosen
push_no P [] d chosen h p = inr (p, h)
push_no P (e ∷ ds) d chosen h p = elim h [
  | inl w ↦ inl (w.0, (w.1.0, (w.1.1.0, push_no P ds d w.1.0 w.1.1.1 p)))
  | inr w ↦ inr (w.0, push_no P ds d chosen w.1 p)
]

-- the step of a loop
pub chosen_more : (P : Diagnostic → Type 0) (ds : List Diagnostic) (i : ℕ) (d : Diagnostic) (old new : List Diagnostic) (mark : Bool) → i < length ds → d ≡ get_or ds i d → AreChosen P (take i ds) old → (mark ≡ true) ↔ P d → (mark ≡ true → new ≡ old ++ d ∷ []) → (mark ≡ false → new ≡ old) → AreChosen P (take (i + 1) ds) new
chosen_more P ds i d old new mark within at so_far means adds keeps =
    let front : take (i + 1) ds ≡ take i ds ++ d ∷ [] = take_more ds i d within ∙ ap (λ x. take i ds ++ x ∷ []) (sym at) in
    subst (λ l. AreChosen P l new) (sym front) (elim (cases_Bool mark) [
      | inl set ↦ subst (AreChosen P (take i ds ++ d ∷ [])) (sym (adds set)) (push_yes P (take i ds) d old so_far (means.0 set))
      | inr clear ↦ subst (AreChosen P (take i ds ++ d ∷ [])) (sym (keeps clear)) (push_no P (take i ds) d old so_far (λ p. both_ways mark clear (means.1 p)))
    ])
