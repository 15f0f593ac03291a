-- Parts of a list that follow one another.
use Rattle.std.proofs.Common.{◌≡◌, ℕ, ◌+◌, ◌<◌, List, [], ◌∷◌, ◌++◌, length, take, get_or, refl, sym, ap, subst, ◌∙◌, add-one, append_assoc, append-nil}
use Rattle.std.proofs.lemmas.List.{take_more}
use Rattle.hm_build_places.specs.Answers.{AreFirstParts, AreParts}

parts_push : {X Y : Type 0} (P : X → List Y → Type 0) (xs : List X) (x : X) (whole last : List Y) → AreParts P xs whole → P x last → AreParts P (xs ++ x ∷ []) (whole ++ last)
parts_push P [] x whole last h p = (last, ([], (p, (refl, ap (λ l. l ++ last) h ∙ sym (append-nil last)))))
parts_push P (y ∷ ys) x whole last h p = (h.0, (h.1.0 ++ last, (h.1.1.0, (parts_push P ys x h.1.0 last h.1.1.1.0 p, ap (λ l. l ++ last) h.1.1.1.1 ∙ append_assoc h.0 h.1.0 last))))

-- the step of a loop
pub parts_more : {X Y : Type 0} (P : X → List Y → Type 0) (xs : List X) (i : ℕ) (d : X) (old last new : List Y) → i < length xs → AreParts P (take i xs) old → P (get_or xs i d) last → new ≡ old ++ last → AreParts P (take (i + 1) xs) new
parts_more P xs i d old last new within h p pushed =
    subst (AreParts P (take (i + 1) xs)) (sym pushed) (subst (λ l. AreParts P l (old ++ last)) (sym (take_more xs i d within)) (parts_push P (take i xs) (get_or xs i d) old last h p))

-- the same by number
pub first_more : {Y : Type 0} (P : ℕ → List Y → Type 0) (n : ℕ) (old last new : List Y) → AreFirstParts P n old → P n last → new ≡ old ++ last → AreFirstParts P (n + 1) new
first_more P n old last new h p pushed = subst (λ m. AreFirstParts P m new) (sym (add-one n)) (old, (last, (h, (p, pushed))))
