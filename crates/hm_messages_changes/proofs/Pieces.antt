-- Texts that are made of pieces.
use Rattle.std.proofs.Common.{◌≡◌, ◌∙◌, ℕ, ◌+◌, ◌<◌, List, [], ◌++◌, Bor, length, map, take, get_or, append_assoc, append-nil, refl, sym, ap}
use Rattle.std.specs.Prelude.{flat_map}
use Rattle.std.proofs.lemmas.List.{flat_map_more, map_more, take_more}

-- one piece for each element of a list: the step of a loop
pub pieces_more : {X A : Type 0} (f : X → List A) (xs : List X) (i : ℕ) (d : X) (text next piece : List A) → i < length xs → text ≡ flat_map f (take i xs) → piece ≡ f (get_or xs i d) → next ≡ text ++ piece → next ≡ flat_map f (take (i + 1) xs)
pieces_more f xs i d text next piece within before of_one e =
    e ∙ (ap (λ t. t ++ piece) before ∙ (ap (λ p. flat_map f (take i xs) ++ p) of_one ∙ (flat_map_more f [] (take i xs) (get_or xs i d) ∙ sym (ap (flat_map f) (take_more xs i d within)))))

-- one more piece that is joined to others: the step of a loop
pub joined_more : (xs : List (Bor (List ℕ))) (i : ℕ) (d : Bor (List ℕ)) (text next : List ℕ) → i < length xs → text ≡ flat_map (λ p. p.now) (take i xs) → next ≡ text ++ (get_or xs i d).now → next ≡ flat_map (λ p. p.now) (take (i + 1) xs)
joined_more xs i d text next within before e =
    pieces_more (λ (p : Bor (List ℕ)). p.now) xs i d text next (get_or xs i d).now within before refl e

-- three pieces that are joined, the first two first
pub three_joined : {A : Type 0} (a b c x : List A) → x ≡ a ++ (b ++ (c ++ [])) → x ≡ a ++ b ++ c
three_joined a b c x e = e ∙ simp (append_assoc, append-nil)

-- four pieces, the last two first
pub four_joined : {A : Type 0} (a b c d x : List A) → x ≡ a ++ (b ++ (c ++ (d ++ []))) → x ≡ a ++ (b ++ (c ++ d))
four_joined a b c d x e = e ∙ simp append-nil

-- five, the last two first, three of which are known by equations
pub five_in_row : {A : Type 0} (a b c d e u v w x : List A) → u ≡ b → v ≡ d → w ≡ e → x ≡ a ++ (u ++ (c ++ (v ++ (w ++ [])))) → x ≡ a ++ (b ++ (c ++ (d ++ e)))
five_in_row a b c d e u v w x g h i f =
    f ∙ (ap (λ y. a ++ (y ++ (c ++ (v ++ (w ++ []))))) g ∙ (ap (λ y. a ++ (b ++ (c ++ (y ++ (w ++ []))))) h ∙ (ap (λ y. a ++ (b ++ (c ++ (d ++ (y ++ []))))) i ∙ simp append-nil)))

-- five, the first two first
pub five_joined : {A : Type 0} (a b c d e x : List A) → x ≡ a ++ (b ++ (c ++ (d ++ (e ++ [])))) → x ≡ a ++ b ++ c ++ d ++ e
five_joined a b c d e x f = f ∙ simp (append_assoc, append-nil)

-- and six
pub six_joined : {A : Type 0} (a b c d e f x : List A) → x ≡ a ++ (b ++ (c ++ (d ++ (e ++ (f ++ []))))) → x ≡ a ++ b ++ c ++ d ++ e ++ f
six_joined a b c d e f x g = g ∙ simp (append_assoc, append-nil)

-- one piece for each name of a list: the step of a loop
pub named_more : (f : List ℕ → List ℕ) (xs : List (Bor (List ℕ))) (i : ℕ) (d : Bor (List ℕ)) (text next piece : List ℕ) → i < length xs → text ≡ flat_map f (map (λ n. n.now) (take i xs))
    → piece ≡ f (get_or xs i d).now → next ≡ text ++ piece → next ≡ flat_map f (map (λ n. n.now) (take (i + 1) xs))
named_more f xs i d text next piece within before of_one e =
    let names : List ℕ → List ℕ = λ p. flat_map f (map (λ n. n.now) (take i xs)) ++ p in
    e ∙ (ap (λ t. t ++ piece) before ∙ (ap names of_one ∙ (flat_map_more f [] (map (λ n. n.now) (take i xs)) (get_or xs i d).now ∙ sym (ap (flat_map f) (map_more (λ n. n.now) xs i d within)))))
