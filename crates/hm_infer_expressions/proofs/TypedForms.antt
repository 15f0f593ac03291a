-- Expressions with a declared type.
use Rattle.std.proofs.Common.{◌≡◌, ℕ, ◌+◌, List, Result, Ok, Err, sym, ◌∙◌, subst}
use Rattle.hm_types.specs.Types.{Var, put}
use Rattle.hm_types.specs.Monotypes.{Mono, rigid}
use Rattle.hm_syntax.specs.Trees.{TypeTree, Expression, typed_expression}
use Rattle.hm_typing.specs.Schemes.{Monotype}
use Rattle.hm_typing.specs.Assumptions.{Assumptions, assumptions_put}
use Rattle.hm_typing.specs.Patterns.{Instantiates}
use Rattle.hm_typing.specs.Problems.{FactsBelow, IsLocal}
use Rattle.hm_typing.specs.Programs.{monotype_of}
use Rattle.hm_typing.specs.SecondForm.{Derives}
use Rattle.hm_typing.proofs.Put.{Derives-put}
use Rattle.hm_typing.proofs.Solve.{put-below}
use Rattle.hm_unify.specs.Levels.{IsOuter}
use Rattle.hm_unify.specs.Solving.{Solving}
use Rattle.hm_unify.specs.WellFormed.{IsWellFormed}
use Rattle.hm_unify.specs.declared.faults.UnifyFault.{UnifyFault}
use Rattle.hm_unify.specs.declared.faults.UnifyFault.TheVariants.{Clash, Memory}
use Rattle.hm_names.specs.Syntax.{Known, expression_of}
use Rattle.hm_names.specs.Types.{declared_type}
use Rattle.hm_infer_context.specs.Problems.{number, monotype, problem, bound, Answers, Refuses, given_more}
use Rattle.hm_infer_context.specs.Environments.{Assumed, AreAssumed, assumptions}
use Rattle.hm_infer_generalisation.specs.Escapes.{TellsEscape}
use Rattle.hm_infer_generalisation.proofs.DeclaredTypes.{declared_below}
use Rattle.hm_infer_expressions.proofs.Derived.{Checks, AnswersExpression}
use Rattle.hm_infer_context.proofs.FoundNames.{assumed_below}
use Rattle.hm_infer_context.proofs.Leaves.{monotype-below}
use Rattle.hm_infer_context.proofs.Outcomes.{SolvedBy, solved_same, solved_both, carries_second, pass_on}
use Rattle.hm_infer_expressions.proofs.OuterVariables.{free_is_outer, outer_inside}
use Rattle.hm_infer_expressions.proofs.Rigid.{AtInstances, AtRigidFrom, rigid_solved, rigid_escapes, rigid_refused}

-- x has a type under A
abbrev pub Has : Known → Expression → Assumptions → Monotype → Type 0
Has known x A t = Derives A (expression_of known x) t

pub Has-put : (known : Known) (x : Expression) (r : ℕ → Monotype) (A : Assumptions) (t : Monotype) → Has known x A t → Has known x (assumptions_put r A) (put r t)
Has-put known x r A t h = Derives-put (expression_of known x) r A t h

abbrev pub AtEach : Known → Expression → Monotype → List Assumed → (ℕ → Monotype) → Type 0
AtEach known x s es = AtInstances (Has known x) (Has-put known x) s (assumptions es)

abbrev AtRigid : Known → Expression → ℕ → Monotype → List Assumed → (ℕ → Monotype) → Type 0
AtRigid known x g s es = AtRigidFrom (Has known x) (Has-put known x) g s (assumptions es)

abbrev IsTyped : Mono → Mono → (ℕ → Monotype) → Type 0
IsTyped body t r = Instantiates (monotype_of body) (put r (monotype t))

typed_local : (body t : Mono) (s : Solving) → IsWellFormed s.given t → IsLocal (bound s) (IsTyped body t)
typed_local body t s w r q f p = (p.0, sym (put-below (bound s) r q (monotype t) f (monotype-below s.given t w)) ∙ p.1)

-- the state before, with so many rigid variables more, and the type that they make of the declared one
pub record IsTaken (s s1 : Solving) (count first : ℕ) (body own : Mono) : Type 0 where
  pub next : s1 ≡ given_more s count
  pub from : first ≡ s.given
  pub shape : monotype own ≡ put (λ i. Var (number (rigid (s.given + i)))) (monotype_of body)
  pub below : FactsBelow (bound s) (problem s)
  pub given : IsWellFormed count body

module _ (known : Known) (x : Expression) (body own : Mono) (count first : ℕ) (es : List Assumed) (s s1 : Solving) (assumed : AreAssumed s.given es) (taken : IsTaken s s1 count first body own) where
  to_rigid : (r : ℕ → Monotype) → Checks known x own es r → AtRigid known x s.given (monotype_of body) es r
  to_rigid r d = subst (λ u. Derives (assumptions_put r (assumptions es)) (expression_of known x) (put r u)) taken.shape d

  from_rigid : (r : ℕ → Monotype) → AtRigid known x s.given (monotype_of body) es r → Checks known x own es r
  from_rigid r d = subst (λ u. Derives (assumptions_put r (assumptions es)) (expression_of known x) (put r u)) (sym taken.shape) d

  inner : (s2 : Solving) → SolvedBy (Checks known x own es) s1 s2 → SolvedBy (AtRigid known x s.given (monotype_of body) es) (given_more s count) s2
  inner s2 a = solved_same (given_more s count) s2 to_rigid from_rigid (subst (λ z. SolvedBy (Checks known x own es) z s2) taken.next a)

  -- x has the declared type at each instance
  pub at_each : {X : Type 0} (s2 : Solving) (y : X) → SolvedBy (Checks known x own es) s1 s2 → TellsEscape {X = X} first count s2 (Ok y) → SolvedBy (AtEach known x (monotype_of body) es) s s2
  at_each s2 y a k =
      rigid_solved (Has known x) (Has-put known x) (monotype_of body) (assumptions es) s s2 count taken.below (assumed_below s.given es assumed) (declared_below count body taken.given) (inner s2 a) k.0
      (λ i h f. k.1.1 i h (subst (λ z. IsOuter s2.equations z (rigid (z + i))) (sym taken.from) (free_is_outer s2.equations k.0.map k.1.0 (assumptions es) s.given (assumed_below s.given es assumed) (rigid (s.given + i)) f)))

  pub inner_refused : (e : UnifyFault) → Refuses (Checks known x own es) s1 e → Refuses (AtEach known x (monotype_of body) es) s e
  inner_refused e n =
      rigid_refused (Has known x) (Has-put known x) (monotype_of body) (assumptions es) s count e taken.below (assumed_below s.given es assumed)
      (pass_on {P = AtRigid known x s.given (monotype_of body) es} {Q = Checks known x own es} (given_more s count) (given_more s count) e (λ r u p. (r, u, from_rigid r p)) (subst (λ z. Refuses (Checks known x own es) z e) taken.next n))

  pub escape_refused : (s2 : Solving) (e : UnifyFault) → SolvedBy (Checks known x own es) s1 s2 → TellsEscape {X = Unit {0}} first count s2 (Err e) → Refuses (AtEach known x (monotype_of body) es) s e
  escape_refused s2 Clash a k =
      let o = outer_inside s2.equations k.0.map k.1.0 s.given (rigid (s.given + k.1.1.0)) (subst (λ z. IsOuter s2.equations z (rigid (z + k.1.1.0))) taken.from k.1.1.1.1) in
      rigid_escapes (Has known x) (Has-put known x) (monotype_of body) (assumptions es) s s2 count taken.below (assumed_below s.given es assumed) (inner s2 a) k.0 k.1.1.0 k.1.1.1.0 o.0 o.1.0 o.1.1
  escape_refused s2 Memory a k = tt

  module _ (ty : TypeTree) (t : Mono) (is : monotype_of body ≡ declared_type ty) (w : IsWellFormed s.given t) where
    both : (r : ℕ → Monotype) → AtEach known x (monotype_of body) es r × IsTyped body t r → Checks known (typed_expression x ty) t es r
    both r p = (subst (λ u. AtEach known x u es r) is p.0, subst (λ u. Instantiates u (put r (monotype t))) is p.1)

    parts : (r : ℕ → Monotype) → Checks known (typed_expression x ty) t es r → AtEach known x (monotype_of body) es r × IsTyped body t r
    parts r p = (subst (λ u. AtEach known x u es r) (sym is) p.0, subst (λ u. Instantiates u (put r (monotype t))) (sym is) p.1)

    -- what the inner expression is refused for
    pub typed_refused : (e : UnifyFault) → Refuses (AtEach known x (monotype_of body) es) s e → Refuses (Checks known (typed_expression x ty) t es) s e
    typed_refused e n = pass_on {P = Checks known (typed_expression x ty) t es} {Q = AtEach known x (monotype_of body) es} s s e (λ r u p. (r, u, (parts r p).0)) n

    pub typed_answers : {X : Type 0} (s2 s3 : Solving) (outcome : Result X UnifyFault) → SolvedBy (AtEach known x (monotype_of body) es) s s2 → Answers (IsTyped body t) s2 s3 outcome → AnswersExpression known (typed_expression x ty) t es s s3 outcome
    typed_answers s2 s3 (Ok y) a m = solved_same {P = λ r. AtEach known x (monotype_of body) es r × IsTyped body t r} s s3 both parts (solved_both s s2 s3 (typed_local body t s w) a m)
    typed_answers s2 s3 (Err e) a n =
        pass_on {P = Checks known (typed_expression x ty) t es} {Q = IsTyped body t} s s2 e (λ r u p. carries_second {P = AtEach known x (monotype_of body) es} {Q = IsTyped body t} s s2 (typed_local body t s w) a r u (parts r p)) n
