-- What the inference of a group answers, from what is done before, with and after its members.
use Rattle.std.proofs.Common.{◌≡◌, ℕ, zero, suc, ◌<◌, List, [], ◌∷◌, ◌++◌, length, get_or, All, Option, Result, Ok, Err, IsErrAnd, inl, inr, refl, sym, ap, subst, arith}
use Rattle.hm_typing.specs.Names.{Identifier, IsOneOf}
use Rattle.hm_typing.specs.Schemes.{Monotype}
use Rattle.hm_syntax.specs.Trees.{Declaration}
use Rattle.hm_syntax.specs.Lists.{declarations}
use Rattle.hm_names.specs.Syntax.{Known}
use Rattle.hm_infer_dependencies.specs.declared.members.Member.{Member}
use Rattle.hm_names_keys.specs.Variables.{Variable}
use Rattle.hm_unify.specs.Unifier.{Equation}
use Rattle.hm_unify.specs.Solving.{Solving}
use Rattle.hm_unify.specs.declared.faults.UnifyFault.{UnifyFault}
use Rattle.hm_infer_context.specs.Problems.{Refuses}
use Rattle.hm_infer_context.specs.Environments.{Assumed, assumptions, AreAssumed}
use Rattle.hm_infer_generalisation.specs.Generalisations.{KeepsNone}
use Rattle.hm_unify.specs.Levels.{is_outer}
use Rattle.hm_infer_expressions.specs.GroupQuestions.{AreMembers, AreGivenTypes, MembersHave, HaveTypesOfAll}
use Rattle.hm_infer_expressions.specs.OpenGroups.{AreUpTo, IsOpenGroup, IsClosedGroup}
use Rattle.hm_infer_expressions.specs.Stages.{IsListFound, InfersGroup, ClosesGroup}
use Rattle.hm_infer_context.proofs.Outcomes.{SolvedBy}
use Rattle.hm_infer_expressions.proofs.GroupAnswers.{members_are}
use Rattle.hm_infer_expressions.proofs.GroupSteps.{refused, inferred, keeps, keeps_nothing}

place_in : (j : ℕ) (group : List ℕ) → IsOneOf j group → (p : ℕ) × (p < length group) × (get_or group p 0 ≡ j)
place_in j [] o = absurd o
place_in j (k ∷ group) (inl e) = (zero, omega arith, sym e)
place_in j (k ∷ group) (inr o) = let h = place_in j group o in (suc h.0, (let l = h.1 in omega arith), h.2)

pub all_one : (n : ℕ) (group : List ℕ) → All (λ j. j < n) group → (j : ℕ) → IsOneOf j group → j < n
all_one n group a j o = let p = place_in j group o in subst (λ z. z < n) p.2 (a p.0 0 p.1)

module _ (k : Known) (decls : List Declaration) (nodes : List (Option Variable)) (rows : List (List ℕ)) (group types : List ℕ) (ms : List Member) (s0 : Solving) (es0 : List Assumed) (s1 : Solving) (es1 : List Assumed) (found : IsListFound k decls nodes rows) (below : All (λ j. j < length nodes) group) (open_ : IsOpenGroup nodes rows group s0 es0 s1 es1 types ms) where
  pub group_members_are : (n : ℕ) → n ≡ length nodes → AreMembers k decls n ms
  group_members_are n e = subst (λ z. AreMembers k decls z ms) (sym e) (members_are k decls (length nodes) (ap length found.nodes_are) found.apart rows found.rows_are group (all_one (length nodes) group below) ms open_.members)

  pub infers_refused : (X : Type 0) (base : List Assumed) (s2 : Solving) (es2 : List Assumed) (e : UnifyFault) → ((τ : Identifier → Monotype) → HaveTypesOfAll k decls τ types ms → Refuses (MembersHave k decls types τ ms (assumptions es1)) s1 e) → InfersGroup {X = X} k decls group base s0 es0 s2 es2 (Err e)
  infers_refused X base s2 es2 e f L finished g B s next tests assumed stage sees =
      refused k decls (length nodes) (ap length found.nodes_are) found.apart rows found.rows_are group (all_one (length nodes) group below) ms open_.members types s0.given open_.placed base es0 es1 s0 s1 open_.given refl (open_.names k (declarations decls) found.nodes_are) L finished g B s next tests assumed stage sees e f

  pub infers_solved : (X : Type 0) (added base : List Assumed) (s2 : Solving) (es2 : List Assumed) (x : X) → es0 ≡ added ++ base → ((τ : Identifier → Monotype) → HaveTypesOfAll k decls τ types ms → SolvedBy (MembersHave k decls types τ ms (assumptions es1)) s1 s2) → IsClosedGroup nodes group types s0.given s2 es0 es2 → InfersGroup {X = X} k decls group base s0 es0 s2 es2 (Ok x)
  infers_solved X added base s2 es2 x e answers c L finished g B s next tests assumed stage sees =
      inferred k decls (length nodes) (ap length found.nodes_are) found.apart rows found.rows_are group (all_one (length nodes) group below) ms open_.members types s0.given open_.placed base es0 es1 s0 s1 open_.given refl (open_.names k (declarations decls) found.nodes_are) L finished g B s next tests assumed stage sees s2 answers c.0 es2
      (c.1.1 k (declarations decls) found.nodes_are (assumptions base)
      (keeps k decls (length nodes) (ap length found.nodes_are) found.apart rows found.rows_are group (all_one (length nodes) group below) ms open_.members types s0.given open_.placed base es0 es1 s0 s1 open_.given refl (open_.names k (declarations decls) found.nodes_are) L finished g B s next tests assumed stage sees s2 answers c.0 c.1.0))

  pub closes_group : (base : List Assumed) (s2 : Solving) (es2 : List Assumed) → ((τ : Identifier → Monotype) → HaveTypesOfAll k decls τ types ms → SolvedBy (MembersHave k decls types τ ms (assumptions es1)) s1 s2) → IsClosedGroup nodes group types s0.given s2 es0 es2 → (KeepsNone (is_outer s2.equations s0.given) s2.equations types group → AreAssumed 0 es0 → AreAssumed 0 es2) → ClosesGroup k decls group base s0 es0 es2
  closes_group base s2 es2 answers c alone L finished g B s next tests assumed stage sees shut =
      alone (keeps_nothing k decls (length nodes) (ap length found.nodes_are) found.apart rows found.rows_are group (all_one (length nodes) group below) ms open_.members types s0.given open_.placed base es0 es1 s0 s1 open_.given refl (open_.names k (declarations decls) found.nodes_are) L finished g B s next tests assumed stage sees s2 answers c.0 c.1.0 shut)

pub infers_passed : (X : Type 0) (k : Known) (decls : List Declaration) (group : List ℕ) (base : List Assumed) (s0 : Solving) (es0 : List Assumed) (s2 : Solving) (es2 : List Assumed) (outcome : Result X UnifyFault) (e : UnifyFault) → IsErrAnd outcome (λ y. y ≡ e) → InfersGroup {X = X} k decls group base s0 es0 s2 es2 (Err e) → InfersGroup {X = X} k decls group base s0 es0 s2 es2 outcome
infers_passed X k decls group base s0 es0 s2 es2 (Ok x) e i f = absurd i
infers_passed X k decls group base s0 es0 s2 es2 (Err y) e i f = subst (λ z. InfersGroup {X = X} k decls group base s0 es0 s2 es2 (Err z)) (sym i) f

pub given_up_to : (g : ℕ) (types : List ℕ) → AreGivenTypes g types → AreUpTo g types
given_up_to g types a j l = let h = a j l in omega arith

-- the first variables of a solver: none is older
pub none_older : (n : ℕ) (es : List Equation) (types nodes : List ℕ) → n ≡ 0 → KeepsNone (is_outer es n) es types nodes
none_older n es types nodes e j o l i = ap (λ k. is_outer es k l) e
