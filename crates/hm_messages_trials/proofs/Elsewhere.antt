-- Names that are none of others.
use Rattle.std.proofs.Common.{◌≡◌, ℕ, List, ◌∷◌, All, Contains, Bor, map, sym}
use Rattle.std.proofs.lemmas.List.Elements.{All-contains, All-cons, All-map}

-- a name that differs from the first and from each of the others is none of them
pub none_of : (first name text : List ℕ) (others : List (Bor (List ℕ))) → text ≡ name → ¬ (text ≡ first) → All (λ n. ¬ (n.now ≡ text)) others → ¬ (Contains (first ∷ map (λ n. n.now) others) name)
none_of first name text others same h all there =
    All-contains (λ n. ¬ (n ≡ text)) (first ∷ map (λ n. n.now) others) name
    (All-cons (λ n. ¬ (n ≡ text)) first (map (λ n. n.now) others) (λ e. h (sym e)) (All-map (λ n. ¬ (n ≡ text)) (λ n. n.now) others all)) there (sym same)
