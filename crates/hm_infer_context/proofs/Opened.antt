-- Instances of schemes with new variables.
use Rattle.std.proofs.Common.{◌≡◌, ℕ, zero, suc, ◌+◌, ◌-◌, ◌<◌, ◌≤◌, List, length, Bool, true, false, ◌||◌, ◌==◌, cond, nat_lt, Result, Ok, Err, refl, sym, ap, ap₂, ◌∙◌, subst, arith, ◌⊎◌, inl, inr}
use Rattle.std.proofs.lemmas.Bool.Decides.{nat_tests}
use Rattle.hm_types.specs.Types.{Var, App, done, more, In, InArgs, put, put_all}
use Rattle.hm_types.specs.Monotypes.{Leaf, Mono, Monos, var, rigid, list_of}
use Rattle.hm_types.specs.Substitution.{occurs, occurs_in_any}
use Rattle.hm_types.specs.Schemes.{TypeScheme, IsScheme, HasNoRigid, AllHaveNoRigid, HasArities, AllHaveArities}
use Rattle.hm_typing.specs.Schemes.{Monotype, SchemeVariable, Free, Quantified, fill}
use Rattle.hm_typing.specs.Programs.{monotype_of, variable_of}
use Rattle.hm_typing.specs.Patterns.{Instantiates}
use Rattle.hm_typing.specs.Problems.{FactsBelow}
use Rattle.hm_typing.proofs.Types.{put-agree, put-put}
use Rattle.hm_typing.proofs.Solve.{put-below}
use Rattle.hm_typing.proofs.SchemeLaws.{SchemeBelow}
use Rattle.hm_typing.proofs.Check.{fill-agree-below}
use Rattle.hm_unify.specs.WellFormed.{IsWellFormed, AreWellFormed}
use Rattle.hm_unify.specs.Solving.{Solving}
use Rattle.hm_unify.specs.declared.faults.UnifyFault.{UnifyFault}
use Rattle.hm_unify.proofs.WellFormed.{well_formed_more}
use Rattle.hm_infer_context.specs.Problems.{number, monotype, problem, bound, Answers, Refuses, given_more, new_at}
use Rattle.hm_infer_context.specs.Environments.{slot, scheme_in, opened, quantified_leaf, IsInstanceUnder}
use Rattle.hm_infer_context.proofs.Leaves.{monotype-below}
use Rattle.hm_infer_context.proofs.States.{Makes}
use Rattle.hm_infer_context.proofs.Outcomes.{SolvedBy, solved_same, solved_new, IsLocalIn, Carries, carries_new, pass_on}

put_length : (f : Leaf → Mono) (ts : Monos) → length (list_of (put_all f ts)) ≡ length (list_of ts)
put_length f done = refl
put_length f (more t ts) = ap suc (put_length f ts)

-- what is opened is given

leaf_given : (b : Bool) (q g n : ℕ) → n < g + q → IsWellFormed (g + q) (Var (quantified_leaf b g n)) → IsWellFormed (g + q) (Var (quantified_leaf b g n))
leaf_given b q g n h w = w

new_given : (b : Bool) (q g n : ℕ) → n < q → IsWellFormed (g + q) (Var (quantified_leaf b g n))
new_given true q g n h = omega arith
new_given false q g n h = omega arith

opened_leaf_given : (b : Bool) (q g n : ℕ) (free : Leaf) → (q ≤ n → IsWellFormed (g + q) (Var free)) → IsWellFormed (g + q) (Var (cond (nat_lt n q) (quantified_leaf b g n) free))
opened_leaf_given b q g n free f = at (nat_lt n q) refl
  where
    less : nat_lt n q ≡ true → n < q
    less e = grind (arith, nat_tests)

    not_less : nat_lt n q ≡ false → q ≤ n
    not_less e = grind (arith, nat_tests)

    at : (c : Bool) → nat_lt n q ≡ c → IsWellFormed (g + q) (Var (cond c (quantified_leaf b g n) free))
    at true e = new_given b q g n (less e)
    at false e = f (not_less e)

mutual
  pub opened_given : (b : Bool) (q g : ℕ) (t : Mono) → IsWellFormed (q + g) t → IsWellFormed (g + q) (put (opened b q g) t)
  opened_given b q g (Var (var n)) w = let h : n < q + g = w in opened_leaf_given b q g n (var (n - q)) (λ l. omega arith)
  opened_given b q g (Var (rigid n)) w = let h : n < q + g = w in opened_leaf_given b q g n (rigid (n - q)) (λ l. omega arith)
  opened_given b q g (App h ts) w = (subst (Rattle.hm_types.specs.Schemes.FitsHead h) (sym (put_length (opened b q g) ts)) w.0, all_opened_given b q g ts w.1)

  all_opened_given : (b : Bool) (q g : ℕ) (ts : Monos) → AreWellFormed (q + g) ts → AreWellFormed (g + q) (put_all (opened b q g) ts)
  all_opened_given b q g done w = tt
  all_opened_given b q g (more t ts) w = (opened_given b q g t w.0, all_opened_given b q g ts w.1)

-- what is opened, with a substitution in it, is the scheme with that and the new variables

abbrev new_types : ℕ → (ℕ → Monotype) → ℕ → Monotype
new_types g r i = r (number (var (g + i)))

leaf_filled : (q g : ℕ) (r : ℕ → Monotype) (l : Leaf) → put r (monotype (opened false q g l)) ≡ fill r (new_types g r) (slot q l)
leaf_filled q g r (var n) = at (nat_lt n q)
  where
    at : (c : Bool) → put r (monotype (Var (cond c (var (g + n)) (var (n - q))))) ≡ fill r (new_types g r) (cond c (Quantified n) (Free (number (var (n - q)))))
    at true = refl
    at false = refl
leaf_filled q g r (rigid n) = at (nat_lt n q)
  where
    at : (c : Bool) → put r (monotype (Var (cond c (var (g + n)) (rigid (n - q))))) ≡ fill r (new_types g r) (cond c (Quantified n) (Free (number (rigid (n - q)))))
    at true = refl
    at false = refl

pub opened_filled : (q g : ℕ) (r : ℕ → Monotype) (t : Mono) → put r (monotype (put (opened false q g) t)) ≡ put (fill r (new_types g r)) (scheme_in (record { quantified = q; body = t }))
opened_filled q g r t =
    ap (put r) (put-put (λ l. Var (number l)) (opened false q g) t) ∙ (put-put r (λ l. monotype (opened false q g l)) t ∙ (put-agree _ _ t (λ l i. leaf_filled q g r l) ∙ sym (put-put (fill r (new_types g r)) (λ l. Var (slot q l)) t)))

-- the variables of a scheme

IsSlotBelow : ℕ → ℕ → SchemeVariable → Type 0
IsSlotBelow q g (Free a) = a < g + g
IsSlotBelow q g (Quantified i) = i < q

slot_below : (q g n : ℕ) (free : ℕ) → (q ≤ n → free < g + g) → IsSlotBelow q g (cond (nat_lt n q) (Quantified n) (Free free))
unfolding IsSlotBelow
slot_below q g n free f = at (nat_lt n q) refl
  where
    less : nat_lt n q ≡ true → n < q
    less e = grind (arith, nat_tests)

    not_less : nat_lt n q ≡ false → q ≤ n
    not_less e = grind (arith, nat_tests)

    at : (c : Bool) → nat_lt n q ≡ c → IsSlotBelow q g (cond c (Quantified n) (Free free))
    at true e = less e
    at false e = f (not_less e)

mutual
  slots_below : (q g : ℕ) (t : Mono) → IsWellFormed (q + g) t → (v : SchemeVariable) → In v (put (λ l. Var (slot q l)) t) → IsSlotBelow q g v
  slots_below q g (Var (var n)) w v i = let h : n < q + g = w in subst (IsSlotBelow q g) (sym i) (slot_below q g n (number (var (n - q))) (λ l. omega arith))
  slots_below q g (Var (rigid n)) w v i = let h : n < q + g = w in subst (IsSlotBelow q g) (sym i) (slot_below q g n (number (rigid (n - q))) (λ l. omega arith))
  slots_below q g (App h ts) w v i = all_slots_below q g ts w.1 v i

  all_slots_below : (q g : ℕ) (ts : Monos) → AreWellFormed (q + g) ts → (v : SchemeVariable) → InArgs v (put_all (λ l. Var (slot q l)) ts) → IsSlotBelow q g v
  all_slots_below q g done w v i = absurd i
  all_slots_below q g (more t ts) w v (inl i) = slots_below q g t w.0 v i
  all_slots_below q g (more t ts) w v (inr i) = all_slots_below q g ts w.1 v i

pub free_below : (q g : ℕ) (t : Mono) → IsWellFormed (q + g) t → SchemeBelow (g + g) (scheme_in (record { quantified = q; body = t }))
unfolding IsSlotBelow
free_below q g t w a i = slots_below q g t w (Free a) i

pub quantified_below : (q g : ℕ) (t : Mono) → IsWellFormed (q + g) t → (k : ℕ) → In (Quantified k) (scheme_in (record { quantified = q; body = t })) → k < q
unfolding IsSlotBelow
quantified_below q g t w k i = slots_below q g t w (Quantified k) i

-- A type is an instance of a scheme

instance_local : (s : Solving) (q : ℕ) (body t : Mono) → IsWellFormed (q + s.given) body → IsWellFormed s.given t →
    IsLocalIn (bound s) q (λ r us. put r (monotype t) ≡ put (fill r us) (scheme_in (record { quantified = q; body = body })))
instance_local s q body t wb wt r p us vs f h e =
    sym (put-below (bound s) r p (monotype t) f (monotype-below s.given t wt)) ∙
    (e ∙ fill-agree-below (bound s) q r p us vs (scheme_in (record { quantified = q; body = body })) (free_below q s.given body wb) (quantified_below q s.given body wb) f h)

pub instance_solved : (s s' : Solving) (q : ℕ) (body t u : Mono) → IsWellFormed (q + s.given) body → IsWellFormed s.given t → FactsBelow (bound s) (problem s) → u ≡ put (opened false q s.given) body →
    SolvedBy (Makes t u) (given_more s q) s' → SolvedBy (λ r. IsInstanceUnder (record { quantified = q; body = body }) r (put r (monotype t))) s s'
instance_solved s s' q body t u wb wt b e a =
    solved_new {P = λ r us. put r (monotype t) ≡ put (fill r us) (scheme_in (record { quantified = q; body = body }))} s s' q b (instance_local s q body t wb wt)
    (solved_same (given_more s q) s' (λ r m. m ∙ turn r) (λ r m. m ∙ sym (turn r)) a)
  where
    turn : (r : ℕ → Monotype) → put r (monotype u) ≡ put (fill r (new_at s.given r)) (scheme_in (record { quantified = q; body = body }))
    turn r = ap (λ v. put r (monotype v)) e ∙ opened_filled q s.given r body

pub instance_carries : (s : Solving) (q : ℕ) (body t u : Mono) → IsWellFormed (q + s.given) body → IsWellFormed s.given t → FactsBelow (bound s) (problem s) → u ≡ put (opened false q s.given) body →
    Carries (λ r. IsInstanceUnder (record { quantified = q; body = body }) r (put r (monotype t))) s (Makes t u) (given_more s q)
instance_carries s q body t u wb wt b e r v p =
    let h = carries_new {P = λ r us. put r (monotype t) ≡ put (fill r us) (scheme_in (record { quantified = q; body = body }))} s q b (instance_local s q body t wb wt) r v p in
    (h.0, h.1, h.2 ∙ sym (ap (λ v. put h.0 (monotype v)) e ∙ opened_filled q s.given h.0 body))

-- Closed schemes

mutual
  closed_given : (k : ℕ) (t : Mono) → HasNoRigid t → HasArities t → ((n : ℕ) → occurs n t ≡ true → n < k) → IsWellFormed k t
  closed_given k (Var (var n)) h a c = c n (same n)
    where
      same : (n : ℕ) → (n == n) ≡ true
      same n = grind (arith, nat_tests)
  closed_given k (Var (rigid n)) h a c = absurd h
  closed_given k (App f ts) h a c = (a.0, all_closed_given k ts h a.1 c)

  all_closed_given : (k : ℕ) (ts : Monos) → AllHaveNoRigid ts → AllHaveArities ts → ((n : ℕ) → occurs_in_any n ts ≡ true → n < k) → AreWellFormed k ts
  all_closed_given k done h a c = tt
  all_closed_given k (more t ts) h a c = (closed_given k t h.0 a.0 (λ n o. c n (left n (occurs n t) o)), all_closed_given k ts h.1 a.1 (λ n o. c n (right n (occurs n t) o)))
    where
      left : (n : ℕ) (b : Bool) → b ≡ true → (b || occurs_in_any n ts) ≡ true
      left n true o = refl
      left n false o = absurd (Rattle.std.proofs.Common.true≢false (sym o))

      right : (n : ℕ) (b : Bool) → occurs_in_any n ts ≡ true → (b || occurs_in_any n ts) ≡ true
      right n true o = refl
      right n false o = o

pub scheme_given : (s : TypeScheme) → IsScheme s → IsWellFormed s.vars s.body
scheme_given s v = closed_given s.vars s.body v.not_rigid v.arities v.closed

mutual
  -- a closed scheme has no free variables
  pub closed_filled : (k : ℕ) (r us : ℕ → Monotype) (t : Mono) → IsWellFormed k t → put (fill r us) (scheme_in (record { quantified = k; body = t })) ≡ put us (monotype_of t)
  closed_filled k r us (Var (var n)) w = let h : n < k = w in let e : nat_lt n k ≡ true = grind (arith, nat_tests) in ap (λ c. fill r us (cond c (Quantified n) (Free (number (var (n - k)))))) e
  closed_filled k r us (Var (rigid n)) w = let h : n < k = w in let e : nat_lt n k ≡ true = grind (arith, nat_tests) in ap (λ c. fill r us (cond c (Quantified n) (Free (number (rigid (n - k)))))) e
  closed_filled k r us (App h ts) w = ap (App h) (all_closed_filled k r us ts w.1)

  all_closed_filled : (k : ℕ) (r us : ℕ → Monotype) (ts : Monos) → AreWellFormed k ts → put_all (fill r us) (put_all (λ l. Var (slot k l)) ts) ≡ put_all us (put_all variable_of ts)
  all_closed_filled k r us done w = refl
  all_closed_filled k r us (more t ts) w = ap₂ more (closed_filled k r us t w.0) (all_closed_filled k r us ts w.1)

pub closed_instance : (k : ℕ) (r : ℕ → Monotype) (t : Mono) (u : Monotype) → IsWellFormed k t → IsInstanceUnder (record { quantified = k; body = t }) r u → Instantiates (monotype_of t) u
closed_instance k r t u w i = (i.0, i.1 ∙ closed_filled k r i.0 t w)

pub instance_closed : (k : ℕ) (r : ℕ → Monotype) (t : Mono) (u : Monotype) → IsWellFormed k t → Instantiates (monotype_of t) u → IsInstanceUnder (record { quantified = k; body = t }) r u
instance_closed k r t u w i = (i.0, i.1 ∙ sym (closed_filled k r i.0 t w))

-- In the states of the program

abbrev pub HasInstance : ℕ → Mono → Mono → (ℕ → Monotype) → Type 0
HasInstance q body t r = IsInstanceUnder (record { quantified = q; body = body }) r (put r (monotype t))

pub instance_answers : {X : Type 0} (s s1 s' : Solving) (q base : ℕ) (body t u : Mono) (outcome : Result X UnifyFault) → IsWellFormed (q + s.given) body → IsWellFormed s.given t → FactsBelow (bound s) (problem s) →
    s1 ≡ given_more s q → base ≡ s.given → u ≡ put (opened false q base) body → Answers (Makes t u) s1 s' outcome → Answers (HasInstance q body t) s s' outcome
instance_answers s s1 s' q base body t u (Ok x) wb wt b e f g a =
    instance_solved s s' q body t u wb wt b (g ∙ ap (λ k. put (opened false q k) body) f) (subst (λ z. SolvedBy (Makes t u) z s') e a)
instance_answers s s1 s' q base body t u (Err k) wb wt b e f g a =
    pass_on {P = HasInstance q body t} {Q = Makes t u} s (given_more s q) k (instance_carries s q body t u wb wt b (g ∙ ap (λ j. put (opened false q j) body) f)) (subst (λ z. Refuses (Makes t u) z k) e a)

pub more_given : (s s1 : Solving) (q : ℕ) (t : Mono) → s1 ≡ given_more s q → IsWellFormed s.given t → IsWellFormed s1.given t
more_given s s1 q t e w = subst (λ z. IsWellFormed z.given t) (sym e) (well_formed_more s.given (s.given + q) t (omega arith) w)

pub instance_given : (s s1 : Solving) (q base : ℕ) (body u : Mono) → s1 ≡ given_more s q → base ≡ s.given → u ≡ put (opened false q base) body → IsWellFormed (q + s.given) body → IsWellFormed s1.given u
instance_given s s1 q base body u e f g w =
    subst (λ z. IsWellFormed z.given u) (sym e) (subst (IsWellFormed (s.given + q)) (sym (g ∙ ap (λ j. put (opened false q j) body) f)) (opened_given false q s.given body w))

pub declared_answers : {X : Type 0} (s s' : Solving) (scheme : TypeScheme) (q : ℕ) (body t : Mono) (outcome : Result X UnifyFault) → IsScheme scheme → q ≡ scheme.vars → body ≡ scheme.body →
    Answers (HasInstance q body t) s s' outcome → Answers (λ r. Instantiates (monotype_of scheme.body) (put r (monotype t))) s s' outcome
declared_answers s s' scheme q body t outcome v e f a = over outcome (subst (λ k. Answers (HasInstance k scheme.body t) s s' outcome) e (subst (λ b. Answers (HasInstance q b t) s s' outcome) f a))
  where
    w : IsWellFormed scheme.vars scheme.body
    w = scheme_given scheme v

    over : {X : Type 0} (outcome : Result X UnifyFault) → Answers (HasInstance scheme.vars scheme.body t) s s' outcome → Answers (λ r. Instantiates (monotype_of scheme.body) (put r (monotype t))) s s' outcome
    over (Ok x) a = solved_same s s' (λ r p. closed_instance scheme.vars r scheme.body _ w p) (λ r p. instance_closed scheme.vars r scheme.body _ w p) a
    over (Err k) a = pass_on {P = λ r. Instantiates (monotype_of scheme.body) (put r (monotype t))} {Q = HasInstance scheme.vars scheme.body t} s s k (λ r u p. (r, u, instance_closed scheme.vars r scheme.body _ w p)) a

pub declared_given : (s : Solving) (scheme : TypeScheme) (q : ℕ) (body : Mono) → IsScheme scheme → q ≡ scheme.vars → body ≡ scheme.body → IsWellFormed (q + s.given) body
declared_given s scheme q body v e f =
    subst (λ k. IsWellFormed (k + s.given) body) (sym e) (subst (IsWellFormed (scheme.vars + s.given)) (sym f) (well_formed_more scheme.vars (scheme.vars + s.given) scheme.body (omega arith) (scheme_given scheme v)))
