-- Messages in a row, with more at the end.
use Rattle.std.proofs.Common.{◌≡◌, ℕ, ◌+◌, ◌<◌, List, [], ◌∷◌, ◌++◌, length, map, take, get_or, refl, sym, ap, subst, ◌∙◌, append_assoc, append-nil}
use Rattle.std.proofs.lemmas.List.{take_more}
use Rattle.hm_messages.specs.Messages.{AreEach}

pub each_more : {X : Type 0} (tells : X → List ℕ → Type 0) (xs : List X) (x : X) (text message : List ℕ) → AreEach tells xs text → tells x message → AreEach tells (xs ++ x ∷ []) (text ++ message)
each_more tells [] x text message none h = (message, [], h, refl, ap (λ (l : List ℕ). l ++ message) none ∙ sym (append-nil message))
each_more tells (y ∷ ys) x text message each h =
    (each.0, each.1 ++ message, each.2, each_more tells ys x each.1 message each.3 h, ap (λ (l : List ℕ). l ++ message) each.4 ∙ append_assoc each.0 each.1 message)

pub each_append : {X : Type 0} (tells : X → List ℕ → Type 0) (xs ys : List X) (text more : List ℕ) → AreEach tells xs text → AreEach tells ys more → AreEach tells (xs ++ ys) (text ++ more)
each_append tells [] ys text more none h = subst (λ (l : List ℕ). AreEach tells ys (l ++ more)) (sym none) h
each_append tells (x ∷ xs) ys text more each h =
    (each.0, each.1 ++ more, each.2, each_append tells xs ys each.1 more each.3 h, ap (λ (l : List ℕ). l ++ more) each.4 ∙ append_assoc each.0 each.1 more)

-- the step of a loop
pub taken_more : {X : Type 0} (tells : X → List ℕ → Type 0) (xs : List X) (i : ℕ) (d : X) (text next message : List ℕ) → i < length xs → AreEach tells (take i xs) text → tells (get_or xs i d) message → next ≡ text ++ message → AreEach tells (take (i + 1) xs) next
taken_more tells xs i d text next message within each h e =
    subst (AreEach tells (take (i + 1) xs)) (sym e) (subst (λ l. AreEach tells l (text ++ message)) (sym (take_more xs i d within)) (each_more tells (take i xs) (get_or xs i d) text message each h))

-- what is told of each by what stands for it
pub each_mapped : {X Y : Type 0} (f : X → Y) (tells : Y → List ℕ → Type 0) (xs : List X) (text : List ℕ) → AreEach (λ x t. tells (f x) t) xs text → AreEach tells (map f xs) text
each_mapped f tells [] text h = h
each_mapped f tells (x ∷ xs) text h = (h.0, h.1, h.2, each_mapped f tells xs h.1 h.3, h.4)
