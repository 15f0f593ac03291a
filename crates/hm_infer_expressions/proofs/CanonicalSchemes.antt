-- Schemes without free variables, and the canonical ones that have the same instances.
use Rattle.std.proofs.Common.{◌≡◌, ℕ, zero, suc, ◌+◌, ◌-◌, ◌<◌, ◌==◌, List, [], ◌∷◌, length, get_or, cond, if◌then◌else◌, Bool, true, false, ◌||◌, inl, inr, ◌↔◌, refl, sym, ap, ◌∙◌, subst, arith}
use Rattle.std.proofs.lemmas.Bool.Decides.{nat_tests}
use Rattle.std.proofs.lemmas.Bool.{eqb-true, eq-eqb}
use Rattle.hm_types.specs.Types.{Var, App, done, more, In, InArgs, put}
use Rattle.hm_types.specs.Monotypes.{Leaf, Mono, Monos, var, rigid}
use Rattle.hm_types.specs.Substitution.{occurs, occurs_in_any, substitute, image}
use Rattle.hm_types.specs.Schemes.{TypeScheme, IsScheme, HasNoRigid, AllHaveNoRigid, HasArities, canonical_of, count_up, is_among, numbering, place, variables}
use Rattle.hm_types.proofs.InOrder.{canonical_is_scheme}
use Rattle.hm_types.proofs.Quantified.{occurs_seen}
use Rattle.hm_types.proofs.Substitution.{or_left, or_right, subst_same, subst_var}
use Rattle.hm_typing.specs.Schemes.{Monotype, Quantified, closed, fill, IsInstance, IsAtMostAsGeneral, scheme_put}
use Rattle.hm_typing.specs.Programs.{monotype_of, scheme_of}
use Rattle.hm_typing.proofs.Types.{put-agree, put-put, put-In}
use Rattle.hm_typing.proofs.Bind.{scheme_put_closed}
use Rattle.hm_unify.specs.WellFormed.{IsWellFormed}
use Rattle.hm_unify.proofs.WellFormed.{well_formed_arities}
use Rattle.hm_infer_context.specs.Environments.{OpenScheme, opened, scheme_in}
use Rattle.hm_infer_expressions.specs.OwnSchemes.{canonical_scheme}
use Rattle.hm_infer_context.proofs.ClosedSchemes.{index, index_below, is_below, renamed, closed_is, scheme_closed}
use Rattle.hm_infer_context.proofs.Opened.{opened_given}

-- Other numbers give the same instances

pub renamed_more : (f g : Leaf → ℕ) (h : ℕ → ℕ) (t : Mono) → ((l : Leaf) → In l t → h (f l) ≡ g l) → IsAtMostAsGeneral (renamed g t) (renamed f t)
renamed_more f g h t e v i =
    ((λ a. i.0 (h a)), i.1 ∙ (put-put (fill Var i.0) (λ l. Var (Quantified (g l))) t ∙ (put-agree _ _ t (λ l j. ap i.0 (sym (e l j))) ∙ sym (put-put (fill Var (λ a. i.0 (h a))) (λ l. Var (Quantified (f l))) t))))

-- The type of a scheme without free variables, with none that is rigid

opened_closed : (q : ℕ) (l : Leaf) → index l < q + 0 → opened false q 0 l ≡ Var (var (index l))
opened_closed q (var n) h = ap (λ b. Var (cond b (var (0 + n)) (var (n - q)))) (is_below n q h) ∙ ap (λ k. Var (var k)) (let z : 0 + n ≡ n = omega arith in z)
opened_closed q (rigid n) h = ap (λ b. Var (cond b (var (0 + n)) (rigid (n - q)))) (is_below n q h) ∙ ap (λ k. Var (var k)) (let z : 0 + n ≡ n = omega arith in z)

abbrev pub plain : Mono → Mono
plain t = put (λ l. Var (var (index l))) t

opened_plain : (q : ℕ) (t : Mono) → IsWellFormed (q + 0) t → put (opened false q 0) t ≡ plain t
opened_plain q t w = put-agree _ _ t (λ l i. opened_closed q l (index_below (q + 0) t w l i))

mutual
  plain_no_rigid : (t : Mono) → HasNoRigid (plain t)
  plain_no_rigid (Var l) = tt
  plain_no_rigid (App h ts) = all_plain_no_rigid ts

  all_plain_no_rigid : (ts : Monos) → AllHaveNoRigid (Rattle.hm_types.specs.Types.put_all (λ l. Var (var (index l))) ts)
  all_plain_no_rigid done = tt
  all_plain_no_rigid (more t ts) = (plain_no_rigid t, all_plain_no_rigid ts)

pub opened_no_rigid : (q : ℕ) (t u : Mono) → IsWellFormed (q + 0) t → u ≡ put (opened false q 0) t → HasNoRigid u
opened_no_rigid q t u w e = subst HasNoRigid (sym (e ∙ opened_plain q t w)) (plain_no_rigid t)

pub opened_arities : (q : ℕ) (t u : Mono) → IsWellFormed (q + 0) t → u ≡ put (opened false q 0) t → HasArities u
opened_arities q t u w e = subst HasArities (sym e) (well_formed_arities (0 + q) _ (opened_given false q 0 t w))

mutual
  in_occurs : (n : ℕ) (t : Mono) → In (var n) t → occurs n t ≡ true
  in_occurs n (Var (var m)) i = eq-eqb m n (ap index (sym i))
  in_occurs n (Var (rigid m)) i = absurd (other i)
    where
      other : var n ≡ rigid m → ⊥
      other e = cc
  in_occurs n (App h ts) i = in_occurs_any n ts i

  in_occurs_any : (n : ℕ) (ts : Monos) → InArgs (var n) ts → occurs_in_any n ts ≡ true
  in_occurs_any n done i = absurd i
  in_occurs_any n (more t ts) (inl i) = or_left (occurs n t) (occurs_in_any n ts) (in_occurs n t i)
  in_occurs_any n (more t ts) (inr i) = or_right (occurs n t) (occurs_in_any n ts) (in_occurs_any n ts i)

-- The canonical scheme

at_place : (n : ℕ) (xs : List ℕ) → is_among n xs ≡ true → get_or xs (place n xs) 0 ≡ n
at_place n [] h = absurd (no h)
  where
    no : false ≡ true → ⊥
    no e = cc
at_place n (x ∷ xs) h = go (λ k. at_place n xs k) (n == x) refl h
  where
    go : (is_among n xs ≡ true → get_or xs (place n xs) 0 ≡ n) → (b : Bool) → (n == x) ≡ b → (b || is_among n xs) ≡ true → get_or (x ∷ xs) (if b then 0 else 1 + place n xs) 0 ≡ n
    go f true e k = sym (eqb-true n x e)
    go f false e k = let step : 1 + place n xs ≡ suc (place n xs) = omega arith in ap (λ i. get_or (x ∷ xs) i 0) step ∙ f k

numbered : (t : Mono) → substitute (numbering (variables (plain t))) (plain t) ≡ put (λ l. Var (var (place (index l) (variables (plain t))))) t
numbered t = put-put (image (numbering (variables (plain t)))) (λ l. Var (var (index l))) t

canonical_renamed : (t : Mono) → scheme_of (canonical_of (plain t)) ≡ renamed (λ l. place (index l) (variables (plain t))) t
canonical_renamed t = ap (λ b. closed (monotype_of b)) (numbered t) ∙ (closed_is (put (λ l. Var (var (place (index l) (variables (plain t))))) t) ∙ put-put (λ l. Var (Quantified (index l))) (λ l. Var (var (place (index l) (variables (plain t))))) t)

canonical_more : (t : Mono) → IsAtMostAsGeneral (closed (monotype_of t)) (scheme_of (canonical_of (plain t)))
canonical_more t v i =
    subst (IsInstance v) (sym (canonical_renamed t))
    (renamed_more (λ l. place (index l) (variables (plain t))) index (λ a. get_or (variables (plain t)) a 0) t
    (λ l j. at_place (index l) (variables (plain t)) (occurs_seen (index l) [] (plain t) (in_occurs (index l) (plain t) (put-In (λ k. Var (var (index k))) l (var (index l)) t j refl))))
    v (subst (IsInstance v) (closed_is t) i))

canonical_less : (t : Mono) → IsAtMostAsGeneral (scheme_of (canonical_of (plain t))) (closed (monotype_of t))
canonical_less t v i =
    subst (IsInstance v) (sym (closed_is t))
    (renamed_more index (λ l. place (index l) (variables (plain t))) (λ a. place a (variables (plain t))) t (λ l j. refl) v (subst (IsInstance v) (canonical_renamed t) i))

canonical_plain : (s : OpenScheme) → IsWellFormed (s.quantified + 0) s.body → canonical_scheme s ≡ canonical_of (plain s.body)
canonical_plain s w = ap canonical_of (opened_plain s.quantified s.body w)

-- it has the instances of the scheme, whatever is put for free variables
pub canonical_instances : (s : OpenScheme) → IsWellFormed (s.quantified + 0) s.body → (r : ℕ → Monotype) (t : Monotype) → IsInstance t (scheme_put r (scheme_in s)) ↔ IsInstance t (scheme_of (canonical_scheme s))
canonical_instances s w r t =
    let e : scheme_put r (scheme_in s) ≡ closed (monotype_of s.body) = ap (scheme_put r) (scheme_closed s.quantified s.body w) ∙ scheme_put_closed r (monotype_of s.body) in
    let k : scheme_of (canonical_of (plain s.body)) ≡ scheme_of (canonical_scheme s) = ap scheme_of (sym (canonical_plain s w)) in (
      (λ i. subst (IsInstance t) k (canonical_more s.body t (subst (IsInstance t) e i))),
      (λ i. subst (IsInstance t) (sym e) (canonical_less s.body t (subst (IsInstance t) (sym k) i))),
    )

pub canonical_whole : (s : OpenScheme) → IsWellFormed (s.quantified + 0) s.body → IsScheme (canonical_scheme s)
canonical_whole s w = subst IsScheme (sym (canonical_plain s w)) (canonical_is_scheme (plain s.body) (plain_no_rigid s.body) (subst HasArities (opened_plain s.quantified s.body w) (opened_arities s.quantified s.body _ w refl)))

-- A scheme whose variables are in order is its own canonical one

counted : (k n : ℕ) → length (count_up k n) ≡ n
counted k zero = refl
counted k (suc n) = ap suc (counted (k + 1) n)

counted_place : (k n i : ℕ) → i < n → place (k + i) (count_up k n) ≡ i
counted_place k zero i h = absurd (omega arith)
counted_place k (suc n) zero h = let e : (k + 0 == k) ≡ true = grind (arith, nat_tests) in ap (λ b. if b then 0 else 1 + place (k + 0) (count_up (k + 1) n)) e
counted_place k (suc n) (suc i) h =
    let e : (k + suc i == k) ≡ false = grind (arith, nat_tests) in
    let s : k + suc i ≡ (k + 1) + i = omega arith in
    ap (λ b. if b then 0 else 1 + place (k + suc i) (count_up (k + 1) n)) e
    ∙ (ap (λ m. 1 + place m (count_up (k + 1) n)) s ∙ (ap (λ m. 1 + m) (counted_place (k + 1) n i (omega arith)) ∙ (let z : 1 + i ≡ suc i = omega arith in z)))

pub in_order_canonical : (s : TypeScheme) → IsScheme s → s ≡ canonical_of s.body
in_order_canonical s v = λ i. record { vars = many i; body = whole i }
  where
    many : s.vars ≡ length (variables s.body)
    many = sym (counted 0 s.vars) ∙ ap length (sym v.in_order)

    whole : s.body ≡ substitute (numbering (variables s.body)) s.body
    whole = sym (ap (λ xs. substitute (numbering xs) s.body) v.in_order ∙ (subst_same (numbering (count_up 0 s.vars)) (λ n. Var (var n)) s.body (λ n o. ap (λ k. Var (var k)) (ap (λ m. place m (count_up 0 s.vars)) (let z : n ≡ 0 + n = omega arith in z) ∙ counted_place 0 s.vars n (v.closed n o))) ∙ subst_var s.body))
