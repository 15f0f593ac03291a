-- Schemes in which nothing is free quantify all their variables.
use Rattle.std.proofs.Common.{◌≡◌, ℕ, ◌+◌, ◌-◌, ◌<◌, nat_lt, cond, true, inl, inr, refl, sym, ap, ◌∙◌, subst, arith}
use Rattle.std.proofs.lemmas.Bool.Decides.{nat_tests}
use Rattle.hm_types.specs.Types.{Var, App, done, more, In, InArgs, put}
use Rattle.hm_types.specs.Monotypes.{Leaf, Mono, Monos, var, rigid}
use Rattle.hm_types.specs.Schemes.{TypeScheme, IsScheme}
use Rattle.hm_typing.specs.Schemes.{Scheme, Free, Quantified, closed}
use Rattle.hm_typing.specs.Programs.{monotype_of, scheme_of, variable_of}
use Rattle.hm_typing.proofs.Types.{put-agree, put-put}
use Rattle.hm_unify.specs.WellFormed.{IsWellFormed, AreWellFormed}
use Rattle.hm_infer_context.specs.Environments.{scheme_in, slot}
use Rattle.hm_infer_context.specs.Problems.{number}
use Rattle.hm_infer_context.proofs.Opened.{scheme_given}

-- the number of a variable, rigid or not
abbrev pub index : Leaf → ℕ
index (var n) = n
index (rigid n) = n

mutual
  pub index_below : (k : ℕ) (t : Mono) → IsWellFormed k t → (l : Leaf) → In l t → index l < k
  index_below k (Var (var n)) w l i = let h : n < k = w in subst (λ z. index z < k) (sym i) h
  index_below k (Var (rigid n)) w l i = let h : n < k = w in subst (λ z. index z < k) (sym i) h
  index_below k (App h ts) w l i = all_index_below k ts w.1 l i

  all_index_below : (k : ℕ) (ts : Monos) → AreWellFormed k ts → (l : Leaf) → InArgs l ts → index l < k
  all_index_below k done w l i = absurd i
  all_index_below k (more t ts) w l (inl i) = index_below k t w.0 l i
  all_index_below k (more t ts) w l (inr i) = all_index_below k ts w.1 l i

pub is_below : (n q : ℕ) → n < q + 0 → nat_lt n q ≡ true
is_below n q h = grind (arith, nat_tests)

-- A scheme in which nothing is free quantifies all variables

slot_closed : (q : ℕ) (l : Leaf) → index l < q + 0 → slot q l ≡ Quantified (index l)
slot_closed q (var n) h = ap (λ b. cond b (Quantified n) (Free (number (var (n - q))))) (is_below n q h)
slot_closed q (rigid n) h = ap (λ b. cond b (Quantified n) (Free (number (rigid (n - q))))) (is_below n q h)

-- every variable is quantified, under another number
abbrev pub renamed : (Leaf → ℕ) → Mono → Scheme
renamed f t = put (λ l. Var (Quantified (f l))) t

all_closed : (l : Leaf) → put (λ a. Var (Quantified a)) (variable_of l) ≡ Var (Quantified (index l))
all_closed (var n) = refl
all_closed (rigid n) = refl

pub closed_is : (t : Mono) → closed (monotype_of t) ≡ renamed index t
closed_is t = put-put (λ a. Var (Quantified a)) variable_of t ∙ put-agree _ _ t (λ l i. all_closed l)

pub scheme_closed : (q : ℕ) (t : Mono) → IsWellFormed (q + 0) t → scheme_in (record { quantified = q; body = t }) ≡ closed (monotype_of t)
scheme_closed q t w = put-agree _ _ t (λ l i. ap Var (slot_closed q l (index_below (q + 0) t w l i))) ∙ sym (closed_is t)

pub entry_scheme : (s : TypeScheme) (q : ℕ) (body : Mono) → IsScheme s → q ≡ s.vars → body ≡ s.body → scheme_in (record { quantified = q; body = body }) ≡ scheme_of s
entry_scheme s q body v e f =
    scheme_closed q body (subst (λ k. IsWellFormed (k + 0) body) (sym e) (subst (IsWellFormed (s.vars + 0)) (sym f) (subst (λ k. IsWellFormed k s.body) (let h : s.vars ≡ s.vars + 0 = omega arith in h) (scheme_given s v))))
    ∙ ap (λ b. closed (monotype_of b)) f

pub entry_given : (s : TypeScheme) (q : ℕ) (body : Mono) → IsScheme s → q ≡ s.vars → body ≡ s.body → IsWellFormed (q + 0) body
entry_given s q body v e f = subst (λ k. IsWellFormed (k + 0) body) (sym e) (subst (IsWellFormed (s.vars + 0)) (sym f) (subst (λ k. IsWellFormed k s.body) (let h : s.vars ≡ s.vars + 0 = omega arith in h) (scheme_given s v)))
