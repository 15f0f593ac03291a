-- Where nothing is free in the assumptions, the schemes of a group have no free variable.
use Rattle.std.proofs.Common.{◌≡◌, ℕ, ◌+◌, ◌-◌, ◌<◌, ◌≤◌, ◌++◌, ◌==◌, List, [], ◌∷◌, length, take, drop, Bool, true, false, cond, ◌||◌, if◌then◌else◌, inl, inr, ⊎_elim, refl, sym, subst, arith}
use Rattle.std.proofs.lemmas.List.{take-append-drop, length-drop}
use Rattle.hm_types.specs.Types.{Var, App, done, more, In, InArgs}
use Rattle.hm_types.specs.Monotypes.{Leaf, Mono, Monos, var, rigid}
use Rattle.hm_types.specs.Schemes.{is_among, place}
use Rattle.hm_types.proofs.Substitution.{bool_cases}
use Rattle.hm_typing.proofs.Types.{In-put}
use Rattle.hm_unify.specs.WellFormed.{IsWellFormed, AreWellFormed}
use Rattle.hm_infer_generalisation.specs.Generalised.{IsClosing, closing}
use Rattle.hm_infer_context.proofs.ClosedSchemes.{index}

-- A type whose variables are below a number

mutual
  pub below_given : (g k : ℕ) (t : Mono) → IsWellFormed g t → ((l : Leaf) → In l t → index l < k) → IsWellFormed k t
  below_given g k (Var (var n)) w f = f (var n) refl
  below_given g k (Var (rigid n)) w f = f (rigid n) refl
  below_given g k (App h ts) w f = (w.0, all_below_given g k ts w.1 f)

  all_below_given : (g k : ℕ) (ts : Monos) → AreWellFormed g ts → ((l : Leaf) → InArgs l ts → index l < k) → AreWellFormed k ts
  all_below_given g k done w f = tt
  all_below_given g k (more t ts) w f = (below_given g k t w.0 (λ l i. f l (inl i)), all_below_given g k ts w.1 (λ l i. f l (inr i)))

-- A closing that keeps nothing

among_place : (n : ℕ) (xs : List ℕ) → is_among n xs ≡ true → place n xs < length xs
among_place n [] h = absurd (no h)
  where
    no : false ≡ true → ⊥
    no e = cc
among_place n (x ∷ xs) h = go (λ k. among_place n xs k) (n == x) h
  where
    go : (is_among n xs ≡ true → place n xs < length xs) → (b : Bool) → (b || is_among n xs) ≡ true → (if b then 0 else 1 + place n xs) < length (x ∷ xs)
    go f true k = omega arith
    go f false k = let r = f k in omega arith

slot_below : (kept : Leaf → Bool) (q : ℕ) (xs ys : List ℕ) (k : Leaf) → q ≡ length xs + length ys → kept k ≡ false → ((n : ℕ) → k ≡ var n → is_among n xs ≡ true) → ((n : ℕ) → k ≡ rigid n → is_among n ys ≡ true) → index (closing kept q xs ys k) < q + 0
slot_below kept q xs ys (var n) e h f g =
    let p = among_place n xs (f n refl) in
    subst (λ b. index (cond b (var (n + q)) (var (place n xs))) < q + 0) (sym h) (omega arith)
slot_below kept q xs ys (rigid n) e h f g =
    let p = among_place n ys (g n refl) in
    subst (λ b. index (cond b (rigid (n + q)) (var (place n ys + length xs))) < q + 0) (sym h) (omega arith)

pub closing_alone : (kept : Leaf → Bool) (t body : Mono) (q g : ℕ) → IsClosing kept t q body → IsWellFormed (q + g) body → ((l : Leaf) → In l t → kept l ≡ false) → IsWellFormed (q + 0) body
closing_alone kept t body q g c w none = below_given (q + g) (q + 0) body w (λ l i. at l (In-put (λ k. Var (closing kept q c.plain c.rigid k)) l t (subst (In l) c.whole i)))
  where
    at : (l : Leaf) → (k : Leaf) × In k t × In l (Var (closing kept q c.plain c.rigid k)) → index l < q + 0
    at l h = subst (λ z. index z < q + 0) (sym h.2) (slot_below kept q c.plain c.rigid h.0 c.many (none h.0 h.1) (λ n e. c.plain_slots n (subst (λ z. In z t) e h.1)) (λ n e. c.rigid_slots n (subst (λ z. In z t) e h.1)))
