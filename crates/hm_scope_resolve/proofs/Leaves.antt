-- Texts among texts, and groups of local names.
use Rattle.std.proofs.Common.{◌≡◌, ℕ, append_assoc, Bool, true, false, ◌||◌, List, [], ◌∷◌, ◌++◌, refl, sym, ap, ◌∙◌}
use Rattle.hm_names.specs.Texts.{same_text, is_text_among}
use Rattle.hm_names.specs.Found.{all_of}

pub among_append : (x : List ℕ) (xs ys : List (List ℕ)) → is_text_among x (xs ++ ys) ≡ (is_text_among x xs || is_text_among x ys)
among_append x [] ys = refl
among_append x (y ∷ xs) ys = go (same_text x y) (among_append x xs ys)
  where
    go : (b : Bool) → is_text_among x (xs ++ ys) ≡ (is_text_among x xs || is_text_among x ys) → (b || is_text_among x (xs ++ ys)) ≡ ((b || is_text_among x xs) || is_text_among x ys)
    go true e = refl
    go false e = e

pub or_swap : (a b : Bool) → (a || b) ≡ (b || a)
or_swap true true = refl
or_swap true false = refl
or_swap false true = refl
or_swap false false = refl

pub or_nothing : (a : Bool) → (a || false) ≡ a
or_nothing true = refl
or_nothing false = refl

-- Groups of local names

pub all_append : (gs hs : List (List (List ℕ))) → all_of (gs ++ hs) ≡ all_of gs ++ all_of hs
all_append [] hs = refl
all_append (g ∷ gs) hs = ap (λ z. g ++ z) (all_append gs hs) ∙ sym (append_assoc g (all_of gs) (all_of hs))
