-- Lines of diagnostics, with one more at the end.
use Rattle.std.proofs.Common.{◌≡◌, ℕ, ◌+◌, ◌<◌, List, [], ◌∷◌, ◌++◌, length, take, get_or, refl, sym, ap, subst, ◌∙◌, append_assoc, append-nil}
use Rattle.std.proofs.lemmas.List.{take_more}
use Rattle.hm_service_messages.specs.Lines.{AreLines, IsLineOf}
use Rattle.hm_service_messages.specs.declared.diagnostic.Diagnostic.{Diagnostic}

push : (ds : List Diagnostic) (d : Diagnostic) (text last : List ℕ) → AreLines ds text → IsLineOf d last → AreLines (ds ++ d ∷ []) (text ++ last)
push [] d text last h p = (last, ([], (p, (refl, ap (λ l. l ++ last) h ∙ sym (append-nil last)))))
push (e ∷ ds) d text last h p = (h.0, (h.1.0 ++ last, (h.1.1.0, (push ds d h.1.0 last h.1.1.1.0 p, ap (λ l. l ++ last) h.1.1.1.1 ∙ append_assoc h.0 h.1.0 last))))

-- the step of a loop
pub lines_more : (ds : List Diagnostic) (i : ℕ) (d : Diagnostic) (old last new : List ℕ) → i < length ds → AreLines (take i ds) old → IsLineOf (get_or ds i d) last → new ≡ old ++ last → AreLines (take (i + 1) ds) new
lines_more ds i d old last new within h p pushed =
    subst (AreLines (take (i + 1) ds)) (sym pushed) (subst (λ l. AreLines l (old ++ last)) (sym (take_more ds i d within)) (push (take i ds) (get_or ds i d) old last h p))
