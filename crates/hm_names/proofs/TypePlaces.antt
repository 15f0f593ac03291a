-- The table of the places of type variables, as texts are added.
use Rattle.std.proofs.Common.{◌≡◌, ℕ, suc, ◌+◌, ◌<◌, ◌≤◌, true, false, Bool, cond, ◌||◌, List, [], ◌∷◌, ◌++◌, length, get_or, map, take, Some, None, is_some, inl, inr, refl, ap, sym, ◌∙◌, subst, arith, bytes_eq}
use Rattle.std.specs.Map.{update}
use Rattle.std.specs.Borrow.{Bor}
use Rattle.std.proofs.lemmas.Map.{update_same, update_other}
use Rattle.std.proofs.lemmas.Bool.{cases_Bool, both_ways}
use Rattle.std.proofs.lemmas.List.{take_more, length-map, length-take-le, take_all}
use Rattle.std.proofs.lemmas.Slice.Eq.{bytes_eq-Decides}
use Rattle.hm_names.specs.Texts.{is_text_among}
use Rattle.hm_names.specs.Types.{place}
use Rattle.hm_names.specs.TypeVariables.{PlaceTable, place_in, ArePlaces}

-- one more text at the end

among_more : (x y : List ℕ) (ys : List (List ℕ)) → is_text_among x (ys ++ y ∷ []) ≡ (is_text_among x ys || bytes_eq x y)
among_more x y [] = at (bytes_eq x y)
  where
    at : (b : Bool) → (b || false) ≡ (false || b)
    at true = refl
    at false = refl
among_more x y (z ∷ zs) = at (bytes_eq x z) (among_more x y zs)
  where
    at : (b : Bool) → is_text_among x (zs ++ y ∷ []) ≡ (is_text_among x zs || bytes_eq x y) → (b || is_text_among x (zs ++ y ∷ [])) ≡ ((b || is_text_among x zs) || bytes_eq x y)
    at true e = refl
    at false e = e

place_before : (x y : List ℕ) (ys : List (List ℕ)) → is_text_among x ys ≡ true → place x (ys ++ y ∷ []) ≡ place x ys
place_before x y [] h = absurd (both_ways false refl h)
place_before x y (z ∷ zs) h = at (bytes_eq x z) h (λ k. place_before x y zs k)
  where
    at : (b : Bool) → (b || is_text_among x zs) ≡ true → (is_text_among x zs ≡ true → place x (zs ++ y ∷ []) ≡ place x zs) → cond b 0 (suc (place x (zs ++ y ∷ []))) ≡ cond b 0 (suc (place x zs))
    at true k e = refl
    at false k e = ap suc (e k)

place_last : (x y : List ℕ) (ys : List (List ℕ)) → is_text_among x ys ≡ false → bytes_eq x y ≡ true → place x (ys ++ y ∷ []) ≡ length ys
place_last x y [] h e = ap (λ b. cond b 0 1) e
place_last x y (z ∷ zs) h e = at (bytes_eq x z) h (λ k. place_last x y zs k e)
  where
    at : (b : Bool) → (b || is_text_among x zs) ≡ false → (is_text_among x zs ≡ false → place x (zs ++ y ∷ []) ≡ length zs) → cond b 0 (suc (place x (zs ++ y ∷ []))) ≡ suc (length zs)
    at true k f = absurd (both_ways true k refl)
    at false k f = ap suc (f k)

pub place_none : (x : List ℕ) (ys : List (List ℕ)) → is_text_among x ys ≡ false → place x ys ≡ length ys
place_none x [] h = refl
place_none x (z ∷ zs) h = at (bytes_eq x z) h (λ k. place_none x zs k)
  where
    at : (b : Bool) → (b || is_text_among x zs) ≡ false → (is_text_among x zs ≡ false → place x zs ≡ length zs) → cond b 0 (suc (place x zs)) ≡ suc (length zs)
    at true k f = absurd (both_ways true k refl)
    at false k f = ap suc (f k)

-- the text is there already
pub places_old : (xs : List (List ℕ)) (y : List ℕ) (table : PlaceTable) → ArePlaces xs table → is_some (place_in table y) ≡ true → ArePlaces (xs ++ y ∷ []) table
places_old xs y table h there x = h x ∙ at (is_text_among x xs) refl
  where
    y_there : is_text_among y xs ≡ true
    y_there = go (is_text_among y xs) refl
      where
        go : (b : Bool) → is_text_among y xs ≡ b → b ≡ true
        go true e = refl
        go false e = absurd (both_ways false refl (sym (ap is_some (h y ∙ ap (λ c. cond c (Some (place y xs)) None) e)) ∙ there))

    at : (b : Bool) → is_text_among x xs ≡ b → cond b (Some (place x xs)) None ≡ cond (is_text_among x (xs ++ y ∷ [])) (Some (place x (xs ++ y ∷ []))) None
    at true e = rw (among_more x y xs, e, place_before x y xs e) refl
    at false e = rw (among_more x y xs, e) (apart (bytes_eq x y) refl)
      where
        apart : (b : Bool) → bytes_eq x y ≡ b → None ≡ cond b (Some (place x (xs ++ y ∷ []))) None
        apart true k = let same : x ≡ y = (bytes_eq-Decides x y).0 k in absurd (both_ways false refl (sym e ∙ ap (λ z. is_text_among z xs) same ∙ y_there))
        apart false k = refl

-- the text is new
pub places_new : (xs : List (List ℕ)) (y : List ℕ) (table next : PlaceTable) → ArePlaces xs table → is_some (place_in table y) ≡ false → ((x : List ℕ) → place_in next x ≡ update bytes_eq (place_in table) y (Some (length xs)) x) → ArePlaces (xs ++ y ∷ []) next
places_new xs y table next h absent updated x = updated x ∙ at (bytes_eq y x) refl
  where
    y_absent : is_text_among y xs ≡ false
    y_absent = go (is_text_among y xs) refl
      where
        go : (b : Bool) → is_text_among y xs ≡ b → b ≡ false
        go false e = refl
        go true e = absurd (both_ways true (sym (ap is_some (h y ∙ ap (λ c. cond c (Some (place y xs)) None) e)) ∙ absent) refl)

    turned : (b : Bool) → bytes_eq y x ≡ b → bytes_eq x y ≡ b
    turned true e = (bytes_eq-Decides x y).1 (sym ((bytes_eq-Decides y x).0 e))
    turned false e = elim (cases_Bool (bytes_eq x y)) [ inl k ↦ absurd (both_ways false refl (sym e ∙ (bytes_eq-Decides y x).1 (sym ((bytes_eq-Decides x y).0 k)))) | inr k ↦ k ]

    at : (b : Bool) → bytes_eq y x ≡ b → update bytes_eq (place_in table) y (Some (length xs)) x ≡ cond (is_text_among x (xs ++ y ∷ [])) (Some (place x (xs ++ y ∷ []))) None
    at true e =
        let same : y ≡ x = (bytes_eq-Decides y x).0 e in
        let none : is_text_among x xs ≡ false = subst (λ z. is_text_among z xs ≡ false) same y_absent in
        update_same bytes_eq (place_in table) y (Some (length xs)) x e ∙ rw (among_more x y xs, none, turned true e, place_last x y xs none (turned true e)) refl
    at false e =
        update_other bytes_eq (place_in table) y (Some (length xs)) x e ∙ (h x ∙ other (is_text_among x xs) refl)
      where
        other : (b : Bool) → is_text_among x xs ≡ b → cond b (Some (place x xs)) None ≡ cond (is_text_among x (xs ++ y ∷ [])) (Some (place x (xs ++ y ∷ []))) None
        other true k = rw (among_more x y xs, k, place_before x y xs k) refl
        other false k = rw (among_more x y xs, k, turned false e) refl

-- what the table answers
pub place_missing : (xs : List (List ℕ)) (x : List ℕ) (table : PlaceTable) → ArePlaces xs table → place_in table x ≡ None → place x xs ≡ length xs
place_missing xs x table h e = at (is_text_among x xs) refl
  where
    at : (b : Bool) → is_text_among x xs ≡ b → place x xs ≡ length xs
    at true k = absurd (both_ways false refl (sym (ap is_some e) ∙ ap is_some (h x ∙ ap (λ c. cond c (Some (place x xs)) None) k)))
    at false k = place_none x xs k

-- the texts of a slice, one after the other
pub places_more : (ts : List (Bor (List ℕ))) (i : ℕ) (y : List ℕ) (table next : PlaceTable) → i < length ts → y ≡ get_or (map (λ t. t.now) ts) i y → ArePlaces (take i (map (λ t. t.now) ts)) table
    → ((xs : List (List ℕ)) → i ≡ length xs → ArePlaces xs table → ArePlaces (xs ++ y ∷ []) next) → ArePlaces (take (i + 1) (map (λ t. t.now) ts)) next
places_more ts i y table next within is before step =
    let names = map (λ t. t.now) ts in
    let long : length names ≡ length ts = length-map ts (λ t. t.now) in
    let more : take (i + 1) names ≡ take i names ++ get_or names i y ∷ [] = take_more names i y (omega (arith, long, within)) in
    subst (λ xs. ArePlaces xs next) (sym (more ∙ ap (λ x. take i names ++ x ∷ []) (sym is)))
    (step (take i names) (sym (length-take-le i names (omega (arith, long, within)))) before)

pub places_all : (ts : List (Bor (List ℕ))) (i : ℕ) (table : PlaceTable) → length ts ≤ i → ArePlaces (take i (map (λ t. t.now) ts)) table → ArePlaces (map (λ t. t.now) ts) table
places_all ts i table all before =
    let long : length (map (λ t. t.now) ts) ≡ length ts = length-map ts (λ t. t.now) in
    subst (λ xs. ArePlaces xs table) (take_all i (map (λ t. t.now) ts) (omega (arith, long, all))) before

-- a text has a place exactly if it is among them
pub place_known : (x : List ℕ) (xs : List (List ℕ)) (table : PlaceTable) → ArePlaces xs table → is_some (place_in table x) ≡ is_text_among x xs
place_known x xs table h = ap is_some (h x) ∙ at (is_text_among x xs)
  where
    at : (b : Bool) → is_some (cond b (Some (place x xs)) None) ≡ b
    at true = refl
    at false = refl
