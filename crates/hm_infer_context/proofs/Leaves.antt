-- Numbers and leaves are in one-to-one correspondence, and so are types here and types of programs.
use Rattle.std.proofs.Common.{◌≡◌, ℕ, zero, suc, ◌+◌, ◌<◌, refl, sym, ap, ap₂, ◌∙◌, subst, arith, inl, inr}
use Rattle.hm_types.specs.Types.{Args, Var, App, done, more, put, put_all, InArgs}
use Rattle.hm_types.specs.Monotypes.{Leaf, Mono, var, rigid}
use Rattle.hm_types.specs.Substitution.{Substitution, substitute, image}
use Rattle.hm_typing.specs.Schemes.{Monotype}
use Rattle.hm_typing.specs.Problems.{IsBelow}
use Rattle.hm_typing.proofs.Types.{put-agree, put-put, put-Var}
use Rattle.hm_unify.specs.WellFormed.{IsWellFormed, AreWellFormed}
use Rattle.hm_infer_context.specs.Problems.{number, monotype}

next : Leaf → Leaf
next (var n) = rigid n
next (rigid n) = var (suc n)

-- the leaf of a number
pub leaf_at : ℕ → Leaf
leaf_at zero = var 0
leaf_at (suc n) = next (leaf_at n)

number-next : (l : Leaf) → number (next l) ≡ suc (number l)
unfolding next
number-next (var n) = refl
number-next (rigid n) = omega arith

pub number-leaf_at : (n : ℕ) → number (leaf_at n) ≡ n
unfolding leaf_at
number-leaf_at zero = refl
number-leaf_at (suc n) = number-next (leaf_at n) ∙ ap suc (number-leaf_at n)

next-next : (l : Leaf) → (n : ℕ) → l ≡ var n → next (next l) ≡ var (suc n)
unfolding next
next-next l n e = ap (λ k. next (next k)) e

even : (n : ℕ) → leaf_at (n + n) ≡ var n
unfolding leaf_at
even zero = refl
even (suc n) =
    let e : suc n + suc n ≡ suc (suc (n + n)) = omega arith in
    ap leaf_at e ∙ next-next (leaf_at (n + n)) n (even n)

odd : (n : ℕ) → leaf_at (suc (n + n)) ≡ rigid n
unfolding leaf_at next
odd n = ap next (even n)

pub leaf_at-number : (l : Leaf) → leaf_at (number l) ≡ l
leaf_at-number (var n) = even n
leaf_at-number (rigid n) = odd n

-- back to a type of the program
abbrev pub back : Monotype → Mono
back t = put (λ n. Var (leaf_at n)) t

pub back-monotype : (t : Mono) → back (monotype t) ≡ t
back-monotype t = put-put (λ n. Var (leaf_at n)) (λ l. Var (number l)) t ∙ (put-agree _ Var t (λ l i. ap Var (leaf_at-number l)) ∙ put-Var t)

pub monotype-back : (t : Monotype) → monotype (back t) ≡ t
monotype-back t = put-put (λ l. Var (number l)) (λ n. Var (leaf_at n)) t ∙ (put-agree _ Var t (λ n i. ap Var (number-leaf_at n)) ∙ put-Var t)

pub back_one : (t u : Monotype) → back t ≡ back u → t ≡ u
back_one t u e = sym (monotype-back t) ∙ (ap monotype e ∙ monotype-back u)

-- a substitution of the program as a map here: rigid variables stay
abbrev pub map_at : Substitution → Leaf → Monotype
map_at f (var n) = monotype (f n)
map_at f (rigid n) = Var (number (rigid n))

abbrev pub here : Substitution → ℕ → Monotype
here f n = map_at f (leaf_at n)

-- and back
abbrev pub there : (ℕ → Monotype) → Substitution
there r n = back (r (number (var n)))

-- a map leaves the first n odd numbers alone
abbrev pub LeavesRigid : ℕ → (ℕ → Monotype) → Type 0
LeavesRigid g r = (k : ℕ) → k < g → r (number (rigid k)) ≡ Var (number (rigid k))

monotype_image : (f : Substitution) (l : Leaf) → monotype (image f l) ≡ here f (number l)
monotype_image f (var n) = ap (map_at f) (sym (even n))
monotype_image f (rigid n) = ap (map_at f) (sym (odd n))

pub monotype-substitute : (f : Substitution) (t : Mono) → monotype (substitute f t) ≡ put (here f) (monotype t)
monotype-substitute f t =
    put-put (λ l. Var (number l)) (image f) t ∙ (put-agree _ _ t (λ l i. monotype_image f l) ∙ sym (put-put (here f) (λ l. Var (number l)) t))

mutual
  pub substitute_there : (g : ℕ) (r : ℕ → Monotype) → LeavesRigid g r → (t : Mono) → IsWellFormed g t → substitute (there r) t ≡ back (put r (monotype t))
  substitute_there g r l (Var (var n)) w = refl
  substitute_there g r l (Var (rigid n)) w = sym (ap back (l n w) ∙ ap Var (odd n))
  substitute_there g r l (App h ts) w = ap (App h) (substitute_all_there g r l ts w.1)

  substitute_all_there : (g : ℕ) (r : ℕ → Monotype) → LeavesRigid g r → (ts : Args Leaf) → AreWellFormed g ts → put_all (image (there r)) ts ≡ put_all (λ n. Var (leaf_at n)) (put_all r (put_all (λ l. Var (number l)) ts))
  substitute_all_there g r l done w = refl
  substitute_all_there g r l (more t ts) w = ap₂ more (substitute_there g r l t w.0) (substitute_all_there g r l ts w.1)

-- the variables of a well-formed type are below the bound
mutual
  pub monotype-below : (g : ℕ) (t : Mono) → IsWellFormed g t → IsBelow (g + g) (monotype t)
  monotype-below g (Var (var n)) w a i = let h : n < g = w in subst (λ c. c < g + g) (sym i) (omega arith)
  monotype-below g (Var (rigid n)) w a i = let h : n < g = w in subst (λ c. c < g + g) (sym i) (omega arith)
  monotype-below g (App h ts) w a i = monotypes-below g ts w.1 a i

  monotypes-below : (g : ℕ) (ts : Args Leaf) → AreWellFormed g ts → (a : ℕ) → InArgs a (put_all (λ l. Var (number l)) ts) → a < g + g
  monotypes-below g done w a i = absurd i
  monotypes-below g (more t ts) w a (inl i) = monotype-below g t w.0 a i
  monotypes-below g (more t ts) w a (inr i) = monotypes-below g ts w.1 a i
