-- The worked letters.
use Rattle.std.proofs.Common.{◌≡◌, ◌∙◌, ◌⊎◌, inl, inr, ℕ, suc, ◌≤◌, ◌-◌, All, Bool, cond, List, [], ◌∷◌, ◌++◌, Contains, drop, length, take, get_or, refl, sym, ap, ap₂, arith, false, true, not}
use Rattle.std.specs.Prelude.{codes, filter, flat_map, slice_range}
use Rattle.std.proofs.lemmas.List.{length-append, length-drop, length-take}
use Rattle.std.proofs.lemmas.List.Elements.{All-contains, All-cons}
use Rattle.hm_lex.specs.Bytes.{class_of, is_white}
use Rattle.hm_messages_types.specs.Letters.{IsLettered, IsNoLetter, IsSignedWith, IsWord, unspaced}
use Rattle.hm_messages_types.specs.Shown.{AreWhole, NamedType}
use Rattle.hm_messages_types.specs.WorkedLetters.{LettersRow, SignedRow, k, v}

abbrev letters : List NamedType
letters = k ∷ v ∷ []

none : {X : Type 0} (P : X → Type 0) → All P []
none P i d l = absurd (omega (arith, l))

abbrev as_it_is : List ℕ → NamedType
as_it_is text = record { name = text; text = text }

-- a word that begins with another byte than a, b, k and v
is_other : (b : ℕ) (bs : List ℕ) → ¬ (b ≡ 97) → ¬ (b ≡ 98) → ¬ (b ≡ 107) → ¬ (b ≡ 118) → IsNoLetter letters (b ∷ bs)
is_other b bs p q r s =
    All-cons P k (v ∷ []) (λ e. p (sym (first (codes "a") e)), λ e. r (sym (first (codes "k") e)))
    (All-cons P v [] (λ e. q (sym (first (codes "b") e)), λ e. s (sym (first (codes "v") e))) (none P))
  where
    P : NamedType → Type 0
    P l = ¬ (l.text ≡ b ∷ bs) × ¬ (l.name ≡ b ∷ bs)

    first : (l : List ℕ) → l ≡ b ∷ bs → get_or l 0 0 ≡ b
    first l e = ap (λ (x : List ℕ). get_or x 0 0) e

mark : (b : ℕ) → ¬ (b ≡ 97) → ¬ (b ≡ 98) → ¬ (b ≡ 107) → ¬ (b ≡ 118) → IsWord letters (as_it_is (b ∷ []))
mark b p q r s = inr (refl, inl (omega arith), is_other b [] p q r s)

abbrev pieces : List NamedType
pieces = as_it_is (codes "[") ∷ k ∷ as_it_is (codes "]") ∷ []

whole : AreWhole pieces
unfolding class_of
whole = (refl, (refl, (refl, tt)))

each : All (IsWord letters) pieces
each =
    All-cons (IsWord letters) (as_it_is (codes "[")) (k ∷ as_it_is (codes "]") ∷ []) (mark 91 (λ e. absurd (omega (arith, e))) (λ e. absurd (omega (arith, e))) (λ e. absurd (omega (arith, e))) (λ e. absurd (omega (arith, e))))
    (All-cons (IsWord letters) k (as_it_is (codes "]") ∷ []) (inl (0, omega arith, refl))
    (All-cons (IsWord letters) (as_it_is (codes "]")) [] (mark 93 (λ e. absurd (omega (arith, e))) (λ e. absurd (omega (arith, e))) (λ e. absurd (omega (arith, e))) (λ e. absurd (omega (arith, e)))) (none (IsWord letters))))

shown : IsLettered letters (codes "[a]") (codes "[k]")
shown = record { pieces = pieces; each = each; whole = whole; text_is = refl; shown_is = refl }

-- a letter's text isn't empty, and a is k's
letter_is : (p : NamedType) → Contains letters p → (p ≡ k) ⊎ (p ≡ v)
letter_is p there = All-contains (λ (q : NamedType). (q ≡ k) ⊎ (q ≡ v)) letters p
    (All-cons (λ (q : NamedType). (q ≡ k) ⊎ (q ≡ v)) k (v ∷ []) (inl refl) (All-cons (λ (q : NamedType). (q ≡ k) ⊎ (q ≡ v)) v [] (inr refl) (none (λ (q : NamedType). (q ≡ k) ⊎ (q ≡ v))))) there

empty_word : (p : NamedType) → IsWord letters p → p.text ≡ [] → p.name ≡ []
empty_word p (inl there) e = at (letter_is p there)
  where
    at : (p ≡ k) ⊎ (p ≡ v) → p.name ≡ []
    at (inl is) = let one : 1 ≡ 0 = ap length (sym (ap (λ (q : NamedType). q.text) is) ∙ e) in absurd (omega (arith, one))
    at (inr is) = let one : 1 ≡ 0 = ap length (sym (ap (λ (q : NamedType). q.text) is) ∙ e) in absurd (omega (arith, one))
empty_word p (inr other) e = other.0 ∙ e

a_word : (p : NamedType) → IsWord letters p → p.text ≡ codes "a" → p.name ≡ codes "k"
a_word p (inl there) e = at (letter_is p there)
  where
    at : (p ≡ k) ⊎ (p ≡ v) → p.name ≡ codes "k"
    at (inl is) = ap (λ (q : NamedType). q.name) is
    at (inr is) = let clash : 98 ≡ 97 = ap (λ (l : List ℕ). get_or l 0 0) (sym (ap (λ (q : NamedType). q.text) is) ∙ e) in absurd (omega (arith, clash))
a_word p (inr other) e = absurd ((other.2 0 k (omega arith)).0 (sym e))

no_bytes : (ps : List NamedType) → All (IsWord letters) ps → flat_map (λ p. p.text) ps ≡ [] → flat_map (λ p. p.name) ps ≡ []
no_bytes [] h e = refl
no_bytes (p ∷ ps) h e =
    let texts : List ℕ = flat_map (λ (q : NamedType). q.text) ps in
    let long : length (p.text ++ texts) ≡ 0 = ap length e in
    let here : p.text ≡ [] = nothing p.text (omega (arith, long, length-append p.text texts)) in
    let there : texts ≡ [] = nothing texts (omega (arith, long, length-append p.text texts)) in
    ap₂ (λ (x y : List ℕ). x ++ y) (empty_word p (h 0 p (omega arith)) here) (no_bytes ps (λ i d l. h (suc i) d (omega (arith, l))) there)
  where
    nothing : (l : List ℕ) → length l ≡ 0 → l ≡ []
    nothing [] z = refl
    nothing (x ∷ l) z = absurd (omega (arith, z))

one_a : (ps : List NamedType) → All (IsWord letters) ps → flat_map (λ p. p.text) ps ≡ codes "a" → flat_map (λ p. p.name) ps ≡ codes "k"
one_a [] h e = let none_one : 0 ≡ 1 = ap length e in absurd (omega (arith, none_one))
one_a (p ∷ ps) h e = at p.text refl (λ rest. one_a ps (λ i d l. h (suc i) d (omega (arith, l))) rest)
  where
    texts : List ℕ
    texts = flat_map (λ (q : NamedType). q.text) ps

    later : All (IsWord letters) ps
    later = λ i d l. h (suc i) d (omega (arith, l))

    at : (t : List ℕ) → p.text ≡ t → (texts ≡ codes "a" → flat_map (λ q. q.name) ps ≡ codes "k") → p.name ++ flat_map (λ (q : NamedType). q.name) ps ≡ codes "k"
    at [] is go =
        let rest : texts ≡ codes "a" = ap (λ (l : List ℕ). l ++ texts) (sym is) ∙ e in
        ap₂ (λ (x y : List ℕ). x ++ y) (empty_word p (h 0 p (omega arith)) is) (go rest)
    at (b ∷ []) is go =
        let all : b ∷ texts ≡ codes "a" = ap (λ (l : List ℕ). l ++ texts) (sym is) ∙ e in
        let first : b ≡ 97 = ap (λ (l : List ℕ). get_or l 0 0) all in
        let rest : texts ≡ [] = ap (λ (l : List ℕ). drop 1 l) all in
        ap₂ (λ (x y : List ℕ). x ++ y) (a_word p (h 0 p (omega arith)) (is ∙ ap (λ (c : ℕ). c ∷ []) first)) (no_bytes ps later rest)
    at (b ∷ c ∷ bs) is go =
        let all : (b ∷ c ∷ bs) ++ texts ≡ codes "a" = ap (λ (l : List ℕ). l ++ texts) (sym is) ∙ e in
        let long : length ((b ∷ c ∷ bs) ++ texts) ≡ 1 = ap length all in
        absurd (omega (arith, long, length-append (b ∷ c ∷ bs) texts))

not_plain : ¬ (IsLettered letters (codes "a") (codes "a"))
not_plain f =
    let shown : codes "a" ≡ codes "k" = f.shown_is ∙ one_a f.pieces f.each (sym f.text_is) in
    let clash : 97 ≡ 107 = ap (λ (l : List ℕ). get_or l 0 0) shown in
    absurd (omega (arith, clash))

pub worked_letters : LettersRow
worked_letters = record { shown = shown; plain = not_plain }

signed : IsSignedWith (codes "f::k->[ v ] ; f = g") (codes "f") (codes "k -> [v]")
unfolding class_of
signed = record { from = 0; to = 11; is = refl }

fewer : (p : ℕ → Bool) (l : List ℕ) → length (filter p l) ≤ length l
fewer p [] = omega arith
fewer p (b ∷ bs) = at (p b) (fewer p bs)
  where
    at : (x : Bool) → length (filter p bs) ≤ length bs → length (cond x (b ∷ filter p bs) (filter p bs)) ≤ suc (length bs)
    at true h = omega (arith, h)
    at false h = omega (arith, h)

no_more : (n m : ℕ) (l : List ℕ) → length (take n (drop m l)) ≤ length l
no_more n m l = omega (arith, length-take n (drop m l), length-drop m l)

not_signed : ¬ (IsSignedWith (codes "f") (codes "f") (codes "k"))
unfolding class_of
not_signed s =
    let lengths : length (unspaced (slice_range (codes "f") s.from s.to)) ≡ 4 = ap length s.is in
    let most : length (unspaced (slice_range (codes "f") s.from s.to)) ≤ length (slice_range (codes "f") s.from s.to) = fewer (λ b. not (is_white b)) (slice_range (codes "f") s.from s.to) in
    let one : length (slice_range (codes "f") s.from s.to) ≤ 1 = no_more (s.to - s.from) s.from (codes "f") in
    absurd (omega (arith, lengths, most, one))

pub worked_signatures : SignedRow
worked_signatures = record { signed = signed; unsigned = not_signed }
