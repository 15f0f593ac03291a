-- Applications: the type of a function is inferred and taken apart.
use Rattle.std.proofs.Common.{◌≡◌, ℕ, ◌+◌, ◌<◌, ◌≤◌, List, Result, Ok, Err, IfErr, refl, sym, ap, ◌∙◌, subst, subst₂, arith}
use Rattle.hm_types.specs.Types.{Var, put}
use Rattle.hm_types.specs.Monotypes.{Mono, var}
use Rattle.hm_syntax.specs.Trees.{Expression, application}
use Rattle.hm_typing.specs.Schemes.{Monotype, arrow}
use Rattle.hm_typing.specs.Assumptions.{assumptions_put}
use Rattle.hm_typing.specs.Problems.{Unifies, FactsBelow}
use Rattle.hm_typing.specs.SecondForm.{Derives}
use Rattle.hm_typing.proofs.SchemeLaws.{assumptions_put-agree}
use Rattle.hm_typing.proofs.Solve.{put-below}
use Rattle.hm_unify.specs.Solving.{Solving}
use Rattle.hm_unify.specs.WellFormed.{IsWellFormed}
use Rattle.hm_unify.specs.declared.faults.UnifyFault.{UnifyFault}
use Rattle.hm_unify.specs.declared.faults.UnifyFault.TheVariants.{Clash, Memory}
use Rattle.hm_names.specs.Syntax.{Known, expression_of}
use Rattle.hm_infer_context.specs.Problems.{number, monotype, problem, bound, Answers, Refuses, given_more}
use Rattle.hm_infer_context.specs.Environments.{Assumed, assumptions, AreAssumed}
use Rattle.hm_infer_context.specs.Inferred.{IsInferred, IsTyped, AreParts, IsSomeFunction}
use Rattle.hm_infer_context.proofs.FoundNames.{assumed_below}
use Rattle.hm_infer_context.proofs.Leaves.{monotype-below}
use Rattle.hm_infer_context.proofs.Outcomes.{SolvedBy, pass_on}
use Rattle.hm_infer_context.proofs.States.{Makes, guess, guess_below, guess_new, guess_unifies, more_rest}
use Rattle.hm_infer_expressions.specs.ExpressionTypes.{HasType}
use Rattle.hm_infer_expressions.proofs.Derived.{AnswersExpression, Checks, checks_local}

pub inferred_is : (known : Known) (e f : Expression) (u : Mono) (es : List Assumed) (s s1 : Solving) → e ≡ f → IsInferred (HasType known e es) s s1 u → IsInferred (HasType known f es) s s1 u
inferred_is known e f u es s s1 i a = subst (λ k. IsInferred (HasType known k es) s s1 u) i a

pub refusal_is : (known : Known) (e f : Expression) (es : List Assumed) (s : Solving) (j : UnifyFault) → e ≡ f → Refuses (IsTyped (HasType known e es)) s j → Refuses (IsTyped (HasType known f es)) s j
refusal_is known e f es s j i a = subst (λ k. Refuses (IsTyped (HasType known k es)) s j) i a

-- `Memory` refuses anything
pub memory_refuses : {X : Type 0} (P : (ℕ → Monotype) → Type 0) (s : Solving) (outcome : Result X UnifyFault) → IfErr outcome (λ e. e ≡ Memory) → IfErr outcome (Refuses P s)
memory_refuses P s (Ok x) h = tt
memory_refuses P s (Err e) h = subst (Refuses P s) (sym h) tt

-- the types of an expression don't depend on variables that its assumptions don't have
moved : (known : Known) (e : Expression) (es : List Assumed) (g : ℕ) (r q : ℕ → Monotype) (t u : Monotype) → AreAssumed g es → ((x : ℕ) → x < g + g → q x ≡ r x) → t ≡ u → HasType known e es r t → HasType known e es q u
moved known e es g r q t u a f i h =
    subst₂ (λ C v. Derives C (expression_of known e) v) (assumptions_put-agree r q (assumptions es) (λ x z. sym (f x (assumed_below g es a x z)))) i h

-- An expression that is checked against a new variable

new_turn : (s : Solving) (own : ℕ) (r : ℕ → Monotype) (t : Monotype) → own ≡ s.given → guess s.given r (λ i. t) (number (var own)) ≡ t
new_turn s own r t h = ap (λ n. guess s.given r (λ i. t) (number (var n))) (let z : own ≡ s.given + 0 = omega (arith, h) in z) ∙ guess_new s.given r (λ i. t) 0

pub other_inferred : (known : Known) (e : Expression) (own : ℕ) (es : List Assumed) (s s1 s2 : Solving) → FactsBelow (bound s) (problem s) → AreAssumed s.given es → s1 ≡ given_more s 1 → own ≡ s.given →
    SolvedBy (Checks known e (Var (var own)) es) s1 s2 → IsInferred (HasType known e es) s s2 (Var (var own))
other_inferred known e own es s s1 s2 b as_ k h a = record {
  grows = (let l = a.grows in let m = ap (λ z. z.given) k in omega (arith, l, m));
  below = a.below;
  sound = λ r u. (let c = a.sound r u in (more_rest s 1 r (subst (λ z. Unifies r (problem z)) k c.0), c.1));
  complete = λ r t u d.
      let q = guess s.given r (λ i. t) in
      let m = ap (λ z. z.given) k in
      let turn = new_turn s own r t h in
      let c = a.complete q (subst (λ z. Unifies q (problem z)) (sym k) (guess_unifies s 1 r (λ i. t) b u)) (moved known e es s.given r q t _ as_ (λ x l. guess_below s.given r (λ i. t) x l) (sym turn) d) in
      (c.0, (λ x l. c.1 x (omega (arith, l, m)) ∙ guess_below s.given r (λ i. t) x l), c.2, c.1 (number (var own)) (omega (arith, m, h)) ∙ turn);
}

pub other_refused : (known : Known) (e : Expression) (own : ℕ) (es : List Assumed) (s s1 : Solving) (j : UnifyFault) → FactsBelow (bound s) (problem s) → AreAssumed s.given es → s1 ≡ given_more s 1 → own ≡ s.given →
    Refuses (Checks known e (Var (var own)) es) s1 j → Refuses (IsTyped (HasType known e es)) s j
other_refused known e own es s s1 j b as_ k h n =
    pass_on {P = IsTyped (HasType known e es)} {Q = Checks known e (Var (var own)) es} s s1 j (λ r u p.
    let q = guess s.given r (λ i. p.0) in
    (q, subst (λ z. Unifies q (problem z)) (sym k) (guess_unifies s 1 r (λ i. p.0) b u), moved known e es s.given r q p.0 _ as_ (λ x l. guess_below s.given r (λ i. p.0) x l) (sym (new_turn s own r p.0 h)) p.1))
    n

-- An application

module _ (known : Known) (f a : Expression) (es : List Assumed) (s : Solving) (assumed : AreAssumed s.given es) where
  -- the function has no type
  pub function_unknown : (j : UnifyFault) → Refuses (IsTyped (HasType known f es)) s j → Refuses (IsTyped (HasType known (application f a) es)) s j
  function_unknown j n = pass_on {P = IsTyped (HasType known (application f a) es)} {Q = IsTyped (HasType known f es)} s s j (λ r u p. (r, u, (arrow p.1.0 p.0, p.1.1.0))) n

  module _ (u : Mono) (s1 : Solving) (function : IsInferred (HasType known f es) s s1 u) where
    -- its type isn't one of functions
    pub function_unfit : (j : UnifyFault) → Refuses (IsSomeFunction u) s1 j → Refuses (IsTyped (HasType known (application f a) es)) s j
    function_unfit j n =
        pass_on {P = IsTyped (HasType known (application f a) es)} {Q = IsSomeFunction u} s s1 j (λ r v p.
        let c = function.complete r (arrow p.1.0 p.0) v p.1.1.0 in
        (c.0, c.2, ((p.1.0, p.0), c.3)))
        n

    module _ (v w : Mono) (s2 : Solving) (parts : AreParts u s1 s2 v w) where
      -- a unifier under which the function has a type from t to x
      function_at : (r : ℕ → Monotype) (t x : Monotype) → Unifies r (problem s) → HasType known f es r (arrow t x) → HasType known a es r t →
          (q : ℕ → Monotype) × ((n : ℕ) → n < bound s → q n ≡ r n) × Unifies q (problem s2) × (put q (monotype w) ≡ x) × Checks known a v es q
      function_at r t x z d h =
          let c = function.complete r (arrow t x) z d in
          let e = parts.complete c.0 (t, x) c.2 c.3 in
          let g = function.grows in
          let agree : (n : ℕ) → n < bound s → e.0 n ≡ r n = λ n l. e.1 n (omega (arith, g, l)) ∙ c.1 n l in
          (e.0, agree, e.2, ap (λ y. y.1) e.3, moved known a es s.given r e.0 t _ assumed agree (sym (ap (λ y. y.0) e.3)) h)

      -- the argument doesn't have the type of the function's argument
      pub argument_unfit : (j : UnifyFault) → Refuses (Checks known a v es) s2 j → Refuses (IsTyped (HasType known (application f a) es)) s j
      argument_unfit j n =
          pass_on {P = IsTyped (HasType known (application f a) es)} {Q = Checks known a v es} s s2 j (λ r z p.
          let c = function_at r p.1.0 p.0 z p.1.1.0 p.1.1.1 in
          (c.0, c.2, c.4))
          n

      pub application_inferred : (s3 : Solving) → IsWellFormed s2.given w → SolvedBy (Checks known a v es) s2 s3 → IsInferred (HasType known (application f a) es) s s3 w
      application_inferred s3 given m = record {
        grows = (let g = function.grows in let h = parts.grows in let l = m.grows in omega (arith, g, h, l));
        below = m.below;
        sound = λ r z.
            let c = m.sound r z in
            let e = parts.sound r c.0 in
            let d = function.sound r e.0 in
            (d.0, (put r (monotype v), (subst (Derives (assumptions_put r (assumptions es)) (expression_of known f)) e.1 d.1, c.1)));
        complete = λ r x z p.
            let c = function_at r p.0 x z p.1.0 p.1.1 in
            let e = m.complete c.0 c.2 c.4 in
            let g = function.grows in
            let h = parts.grows in
            (e.0, (λ n l. e.1 n (omega (arith, g, h, l)) ∙ c.1 n l), e.2, sym (put-below (bound s2) c.0 e.0 (monotype w) e.1 (monotype-below s2.given w given)) ∙ c.3);
      }

-- An application that is checked against a type

module _ (known : Known) (f a : Expression) (t : Mono) (es : List Assumed) (s : Solving) (assumed : AreAssumed s.given es) (given : IsWellFormed s.given t) where
  -- the function has no type
  pub checked_unknown : (j : UnifyFault) → Refuses (IsTyped (HasType known f es)) s j → Refuses (Checks known (application f a) t es) s j
  checked_unknown j n = pass_on {P = Checks known (application f a) t es} {Q = IsTyped (HasType known f es)} s s j (λ r u p. (r, u, (arrow p.0 (put r (monotype t)), p.1.0))) n

  module _ (u : Mono) (s1 : Solving) (function : IsInferred (HasType known f es) s s1 u) where
    -- its type isn't one of functions
    pub checked_unfit : (j : UnifyFault) → Refuses (IsSomeFunction u) s1 j → Refuses (Checks known (application f a) t es) s j
    checked_unfit j n =
        pass_on {P = Checks known (application f a) t es} {Q = IsSomeFunction u} s s1 j (λ r z p.
        let c = function.complete r (arrow p.0 (put r (monotype t))) z p.1.0 in
        (c.0, c.2, ((p.0, put r (monotype t)), c.3)))
        n

    module _ (v w : Mono) (s2 : Solving) (parts : AreParts u s1 s2 v w) where
      -- a unifier under which the outcome is t
      outcome_at : (r : ℕ → Monotype) → Unifies r (problem s) → Checks known (application f a) t es r → (q : ℕ → Monotype) × ((n : ℕ) → n < bound s → q n ≡ r n) × Unifies q (problem s2) × Makes t w q × Checks known a v es q
      outcome_at r z p =
          let c = function_at known f a es s assumed u s1 function v w s2 parts r p.0 (put r (monotype t)) z p.1.0 p.1.1 in
          (c.0, c.1, c.2, sym (put-below (bound s) r c.0 (monotype t) c.1 (monotype-below s.given t given)) ∙ sym c.3, c.4)

      -- the outcome isn't t
      pub checked_unequal : (j : UnifyFault) → Refuses (Makes t w) s2 j → Refuses (Checks known (application f a) t es) s j
      checked_unequal j n = pass_on {P = Checks known (application f a) t es} {Q = Makes t w} s s2 j (λ r z p. (let c = outcome_at r z p in (c.0, c.2, c.3))) n

      module _ (s3 : Solving) (later : AreAssumed s2.given es) (taken : IsWellFormed s2.given v) (made : SolvedBy (Makes t w) s2 s3) where
        -- a unifier under which the outcome is t, in the state after
        made_at : (r : ℕ → Monotype) → Unifies r (problem s) → Checks known (application f a) t es r → (q : ℕ → Monotype) × ((n : ℕ) → n < bound s → q n ≡ r n) × Unifies q (problem s3) × Checks known a v es q
        made_at r z p =
            let c = outcome_at r z p in
            let e = made.complete c.0 c.2 c.3 in
            let g = function.grows in
            let h = parts.grows in
            (e.0, (λ n l. e.1 n (omega (arith, g, h, l)) ∙ c.1 n l), e.2, checks_local known a v es s2 later taken c.0 e.0 e.1 c.4)

        pub checked_answers : {X : Type 0} (s4 : Solving) (outcome : Result X UnifyFault) → AnswersExpression known a v es s3 s4 outcome → AnswersExpression known (application f a) t es s s4 outcome
        checked_answers s4 (Ok x) m = record {
          grows = (let g = function.grows in let h = parts.grows in let k = made.grows in let l = m.grows in omega (arith, g, h, k, l));
          below = m.below;
          sound = λ r z.
              let c = m.sound r z in
              let b = made.sound r c.0 in
              let e = parts.sound r b.0 in
              let d = function.sound r e.0 in
              (d.0, (put r (monotype v), (subst (Derives (assumptions_put r (assumptions es)) (expression_of known f)) (e.1 ∙ ap (arrow (put r (monotype v))) (sym b.1)) d.1, c.1)));
          complete = λ r z p.
              let c = made_at r z p in
              let e = m.complete c.0 c.2 c.3 in
              let g = function.grows in
              let h = parts.grows in
              let k = made.grows in
              (e.0, (λ n l. e.1 n (omega (arith, g, h, k, l)) ∙ c.1 n l), e.2);
        }
        checked_answers s4 (Err j) n = pass_on {P = Checks known (application f a) t es} {Q = Checks known a v es} s s3 j (λ r z p. (let c = made_at r z p in (c.0, c.2, c.3))) n
