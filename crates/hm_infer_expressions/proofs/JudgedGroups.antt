-- A group that is judged by itself: its members' answer is its principal schemes, or that it has no types.
use Rattle.std.proofs.Common.{◌≡◌, ℕ, ◌+◌, ◌<◌, List, [], ◌++◌, length, get_or, All, Bool, true, false, cond, Option, Result, Ok, Err, IsErrAnd, inl, inr, ◌⊎◌, refl, sym, ap, ◌∙◌, subst, arith}
use Rattle.std.specs.Bool.{Decides}
use Rattle.hm_types.specs.Types.{Var, App, In, put}
use Rattle.hm_types.specs.Monotypes.{var}
use Rattle.hm_typing.specs.Names.{Identifier, IsOneOf}
use Rattle.hm_typing.specs.Schemes.{Monotype, Scheme, Free, Quantified, instance, IsInstance, monomorphic}
use Rattle.hm_typing.specs.Assumptions.{Assumptions, IsClosed, FreeIn, assumptions_put}
use Rattle.hm_typing.specs.Generalisation.{quantify}
use Rattle.hm_typing.specs.Syntax.{Bindings, names}
use Rattle.hm_typing.specs.Problems.{Unifies, FactsBelow, MostGeneralUnifier}
use Rattle.hm_typing.specs.Orders.{IsNext, Layout}
use Rattle.hm_typing.proofs.Groups.{over, GroupHas, GroupQ, cond_true, cond_false}
use Rattle.hm_typing.proofs.Matching.{together}
use Rattle.hm_typing.proofs.Patterns.{under}
use Rattle.hm_typing.proofs.Principal.{assumptions_put_closed}
use Rattle.hm_typing.proofs.Quantified.{In_quantify}
use Rattle.hm_typing.proofs.SchemeLaws.{instance_quantify}
use Rattle.hm_typing.proofs.Units.{AreClosed, GroupHas-put, Unit_typed, over_closed}
use Rattle.hm_syntax.specs.Trees.{Declaration}
use Rattle.hm_syntax.specs.Lists.{declarations}
use Rattle.hm_names.specs.Syntax.{Known}
use Rattle.hm_infer_dependencies.specs.declared.members.Member.{Member}
use Rattle.hm_infer_dependencies.specs.Nodes.{list_nodes}
use Rattle.hm_infer_dependencies.specs.Groups.{node_name}
use Rattle.hm_names_keys.specs.Variables.{Variable}
use Rattle.hm_unify.specs.Levels.{is_outer}
use Rattle.hm_unify.specs.Solving.{Solving}
use Rattle.hm_unify.specs.WellFormed.{EquationsAreWellFormed}
use Rattle.hm_unify.specs.declared.faults.UnifyFault.{UnifyFault}
use Rattle.hm_unify.specs.declared.faults.UnifyFault.TheVariants.{Clash, Memory}
use Rattle.hm_infer_context.specs.Problems.{number, problem, bound, equal_facts, Refuses, given_more}
use Rattle.hm_infer_context.specs.Environments.{Assumed, AreAssumed, assumptions}
use Rattle.hm_infer_expressions.specs.BoundNames.{Binds, BindsSchemes, Sees, names_at}
use Rattle.hm_infer_generalisation.specs.Generalisations.{IsSolution, KeepsEach}
use Rattle.hm_infer_expressions.specs.GroupQuestions.{type_at, MembersHave, HaveTypesOfAll}
use Rattle.hm_infer_expressions.specs.JudgedGroups.{AfterJudged, JudgesGroup}
use Rattle.hm_infer_expressions.specs.OpenGroups.{IsOpenGroup, IsClosedGroup}
use Rattle.hm_infer_expressions.specs.Stages.{list_of, IsListFound}
use Rattle.hm_infer_expressions.proofs.GroupAnswers.{place_among, all_placed, type_is, types_are, question_to, question_from, in_names}
use Rattle.hm_infer_expressions.proofs.GroupEnds.{all_one}
use Rattle.hm_infer_expressions.proofs.GroupSteps.{sees_after}
use Rattle.hm_infer_expressions.proofs.OuterVariables.{keeps_outer}
use Rattle.hm_infer_context.proofs.Outcomes.{SolvedBy, solved_same}
use Rattle.hm_infer_expressions.proofs.PrincipalLists.{closed_assumptions}
use Rattle.hm_infer_context.proofs.States.{guess, guess_new, guess_unifies, problem_below, rigid_unify}
use Rattle.hm_infer_expressions.proofs.Steps.{GroupHas-in, variable_at}

abbrev number_in : Monotype → ℕ
number_in (Var a) = a
number_in (App h ts) = 0

bool_cases : (b : Bool) → (b ≡ true) ⊎ (b ≡ false)
bool_cases true = inl refl
bool_cases false = inr refl

-- a solver without equations
no_facts : (s : Solving) → s.equations ≡ [] → FactsBelow (bound s) (problem s)
no_facts s e = problem_below s (subst (EquationsAreWellFormed s.given) (sym e) tt)

nothing_asked : (s : Solving) → s.equations ≡ [] → Unifies Var (problem s)
nothing_asked s e = rigid_unify s.given (equal_facts s.equations) Var (λ k h. refl) (subst (λ z. Unifies Var (equal_facts z)) (sym e) tt)

module _ (ds : Bindings) (L : Layout ds) (A : Assumptions) (shut : IsClosed A) (status g : Identifier → Bool) (next : IsNext ds L.own status g) (B : Identifier → Scheme) (shutB : AreClosed B) (s0 : Solving) (empty : s0.equations ≡ []) (k : ℕ) (place : Identifier → ℕ) (named : ℕ → Identifier) (placed : (x : Identifier) → g x ≡ true → (place x < k) × (named (place x) ≡ x)) where
  abbrev guessed : (Identifier → Monotype) → ℕ → Monotype
  guessed τ = guess s0.given Var (λ i. τ (named i))

  guessed_at : (τ : Identifier → Monotype) (y : Identifier) → g y ≡ true → guess s0.given Var (λ i. τ (named i)) (number (var (s0.given + place y))) ≡ τ y
  guessed_at τ y gy = guess_new s0.given Var (λ i. τ (named i)) (place y) ∙ ap τ (placed y gy).1

  pub guessed_unifies : (τ : Identifier → Monotype) → Unifies (guess s0.given Var (λ i. τ (named i))) (problem (given_more s0 k))
  guessed_unifies τ = guess_unifies s0 k Var (λ i. τ (named i)) (no_facts s0 empty) (nothing_asked s0 empty)

  pub asked : (τ : Identifier → Monotype) → GroupHas g (names ds) A B τ ds → GroupQ g (names ds) A B (variable_at s0.given place) ds (guess s0.given Var (λ i. τ (named i)))
  asked τ h = GroupHas-in ds L.own g (names ds) A (assumptions_put (guess s0.given Var (λ i. τ (named i))) A) B (over (guess s0.given Var (λ i. τ (named i))) B) τ (λ y. put (guess s0.given Var (λ i. τ (named i))) (variable_at s0.given place y))
      (sym (assumptions_put_closed (guess s0.given Var (λ i. τ (named i))) A shut)) (λ y o. ap (λ f. f y) (sym (over_closed (guess s0.given Var (λ i. τ (named i))) B shutB))) (λ y gy. sym (guessed_at τ y gy)) next.whole (together ds L.own L.units) h

  module _ (s1 : Solving) (solved : SolvedBy (GroupQ g (names ds) A B (variable_at s0.given place) ds) (given_more s0 k) s1) (m : MostGeneralUnifier (problem s1)) where
    -- the schemes of the group; that of any other name has all instances
    abbrev pub unit_schemes : Identifier → Scheme
    unit_schemes y = cond (g y) (quantify A (m.map (number (var (s0.given + place y))))) (Var (Quantified 0))

    shut_at : (y : Identifier) (b : Bool) (a : ℕ) → ¬ (Rattle.hm_types.specs.Types.In (Free a) (cond b (quantify A (m.map (number (var (s0.given + place y))))) (Var (Quantified 0))))
    shut_at y true a i = shut a (In_quantify A (m.map (number (var (s0.given + place y)))) a i)
    shut_at y false a i = is_free (i)
      where
        is_free : Free a ≡ Quantified 0 → ⊥
        is_free e = cc

    most_at : (τ : Identifier → Monotype) → GroupHas g (names ds) A B τ ds → (x : Identifier) → (g x ≡ true) ⊎ (g x ≡ false) → IsInstance (τ x) (cond (g x) (quantify A (m.map (number (var (s0.given + place x))))) (Var (Quantified 0)))
    most_at τ h x (inr e) = subst (IsInstance (τ x)) (sym (cond_false (g x) _ _ e)) ((λ i. τ x), refl)
    most_at τ h x (inl e) =
        let c = solved.complete (guess s0.given Var (λ i. τ (named i))) (guessed_unifies τ) (asked τ h) in
        let low : number (var (s0.given + place x)) < bound (given_more s0 k) = (let l = (placed x e).0 in omega arith) in
        subst (IsInstance (τ x)) (sym (cond_true (g x) _ _ e))
        (c.0, sym (guessed_at τ x e) ∙ (sym (c.1 (number (var (s0.given + place x))) low) ∙ (sym (m.most c.0 c.2 (number (var (s0.given + place x)))) ∙ sym (instance_quantify A c.0 (m.map (number (var (s0.given + place x)))) (λ a f. absurd (shut a f))))))

    pub unit_typed : Unit_typed ds A g B
    unit_typed = record {
      schemes = λ y. cond (g y) (quantify A (m.map (number (var (s0.given + place y))))) (Var (Quantified 0));
      shut = λ y a i. shut_at y (g y) a i;
      each = λ us. GroupHas-in ds L.own g (names ds) (assumptions_put us (assumptions_put m.map A)) A (over us (over m.map B)) B (under us (λ y. put m.map (variable_at s0.given place y))) (λ y. instance (cond (g y) (quantify A (m.map (number (var (s0.given + place y))))) (Var (Quantified 0))) us)
          (assumptions_put_closed us (assumptions_put m.map A) (λ a f. shut a (subst (FreeIn a) (assumptions_put_closed m.map A shut) f)) ∙ assumptions_put_closed m.map A shut)
          (λ y o. ap (λ f. f y) (ap (over us) (over_closed m.map B shutB) ∙ over_closed us B shutB))
          (λ y gy. sym (ap (λ σ. instance σ us) (cond_true (g y) _ _ gy) ∙ instance_quantify A us (m.map (number (var (s0.given + place y)))) (λ a f. absurd (shut a f))))
          next.whole (together ds L.own L.units)
          (GroupHas-put ds us g (names ds) (assumptions_put m.map A) (over m.map B) (λ y. put m.map (variable_at s0.given place y)) (solved.sound m.map m.unifies).1);
      most = λ τ h x o. most_at τ h x (bool_cases (g x));
    }

module _ (k : Known) (decls : List Declaration) (nodes : List (Option Variable)) (rows : List (List ℕ)) (group types : List ℕ) (ms : List Member) (s0 : Solving) (es0 : List Assumed) (s1 : Solving) (es1 : List Assumed) (found : IsListFound k decls nodes rows) (below : All (λ j. j < length nodes) group) (open_ : IsOpenGroup nodes rows group s0 es0 s1 es1 types ms) (base : List Assumed) where
  abbrev D : Rattle.hm_syntax.specs.Trees.Declarations
  D = declarations decls

  long : length nodes ≡ length (list_nodes (declarations decls) (declarations decls))
  long = ap length found.nodes_are

  module _ (L : Layout (list_of k decls)) (status g : Identifier → Bool) (B : Identifier → Scheme) (empty : s0.equations ≡ []) (next : IsNext (list_of k decls) L.own status g) (tests : (y : Identifier) → Decides (g y) (IsOneOf y (names_at k (declarations decls) group))) (closed : AreAssumed 0 base) (shutB : AreClosed B) (sees : Sees (list_of k decls) (assumptions base) status B es0) where
    shut : IsClosed (assumptions base)
    shut = closed_assumptions base closed

    binds : Binds (names_at k (declarations decls) group) (λ x. monomorphic (variable_at s0.given (place_among k (declarations decls) types s0.given group) x)) es0 es1
    binds = open_.names k (declarations decls) found.nodes_are (variable_at s0.given (place_among k (declarations decls) types s0.given group)) (λ j o. type_is k decls (length nodes) long found.apart rows found.rows_are group (all_one (length nodes) group below) ms open_.members types s0.given open_.placed j o)

    typed_all : HaveTypesOfAll k decls (variable_at s0.given (place_among k (declarations decls) types s0.given group)) types ms
    typed_all = types_are k decls (length nodes) long found.apart rows found.rows_are group (all_one (length nodes) group below) ms open_.members types s0.given open_.placed L status g next tests

    placing : (x : Identifier) → g x ≡ true → (place_among k (declarations decls) types s0.given group x < length group) × (node_name k (declarations decls) (get_or group (place_among k (declarations decls) types s0.given group x) 0) ≡ x)
    placing = all_placed k decls (length nodes) long found.apart rows found.rows_are group (all_one (length nodes) group below) ms open_.members types s0.given open_.placed L status g next tests

    to : (r : ℕ → Monotype) → MembersHave k decls types (variable_at s0.given (place_among k (declarations decls) types s0.given group)) ms (assumptions es1) r → GroupQ g (names (list_of k decls)) (assumptions base) B (variable_at s0.given (place_among k (declarations decls) types s0.given group)) (list_of k decls) r
    to r p = question_to k decls (length nodes) long found.apart rows found.rows_are group (all_one (length nodes) group below) ms open_.members types s0.given open_.placed L status g next tests B base es0 es1 sees binds r p

    from : (r : ℕ → Monotype) → GroupQ g (names (list_of k decls)) (assumptions base) B (variable_at s0.given (place_among k (declarations decls) types s0.given group)) (list_of k decls) r → MembersHave k decls types (variable_at s0.given (place_among k (declarations decls) types s0.given group)) ms (assumptions es1) r
    from r p = question_from k decls (length nodes) long found.apart rows found.rows_are group (all_one (length nodes) group below) ms open_.members types s0.given open_.placed L status g next tests B base es0 es1 sees binds r p

    given : s1 ≡ given_more s0 (length group)
    given = open_.given

    refused_at : (X : Type 0) (es2 : List Assumed) (e : UnifyFault) → ((ρ : Identifier → Monotype) → HaveTypesOfAll k decls ρ types ms → Refuses (MembersHave k decls types ρ ms (assumptions es1)) s1 e) → AfterJudged {X = X} (list_of k decls) (assumptions base) status g B es2 (Err e)
    refused_at X es2 Memory n = tt
    refused_at X es2 Clash n = λ τ h.
        let q = guess s0.given Var (λ i. τ (node_name k (declarations decls) (get_or group i 0))) in
        n _ typed_all (guess s0.given Var (λ i. τ (node_name k (declarations decls) (get_or group i 0))))
        (subst (λ z. Unifies (guess s0.given Var (λ i. τ (node_name k (declarations decls) (get_or group i 0)))) (problem z)) (sym given) (guessed_unifies (list_of k decls) L (assumptions base) shut status g next B shutB s0 empty (length group) (place_among k (declarations decls) types s0.given group) (λ p. node_name k (declarations decls) (get_or group p 0)) placing τ))
        (from _ (asked (list_of k decls) L (assumptions base) shut status g next B shutB s0 empty (length group) (place_among k (declarations decls) types s0.given group) (λ p. node_name k (declarations decls) (get_or group p 0)) placing τ h))

    module _ (s2 : Solving) (answers : (ρ : Identifier → Monotype) → HaveTypesOfAll k decls ρ types ms → SolvedBy (MembersHave k decls types ρ ms (assumptions es1)) s1 s2) (m : MostGeneralUnifier (problem s2)) where
      solved : SolvedBy (GroupQ g (names (list_of k decls)) (assumptions base) B (variable_at s0.given (place_among k (declarations decls) types s0.given group)) (list_of k decls)) (given_more s0 (length group)) s2
      solved = subst (λ z. SolvedBy (GroupQ g (names (list_of k decls)) (assumptions base) B (variable_at s0.given (place_among k (declarations decls) types s0.given group)) (list_of k decls)) z s2) given
          (solved_same {P = MembersHave k decls types (variable_at s0.given (place_among k (declarations decls) types s0.given group)) ms (assumptions es1)} {Q = GroupQ g (names (list_of k decls)) (assumptions base) B (variable_at s0.given (place_among k (declarations decls) types s0.given group)) (list_of k decls)} s1 s2 to from (answers _ typed_all))

      t : Unit_typed (list_of k decls) (assumptions base) g B
      t = unit_typed (list_of k decls) L (assumptions base) shut status g next B shutB s0 empty (length group) (place_among k (declarations decls) types s0.given group) (λ p. node_name k (declarations decls) (get_or group p 0)) placing s2 solved m

      schemes_are : (j : ℕ) → IsOneOf j group → cond (g (node_name k (declarations decls) j)) (t.schemes (node_name k (declarations decls) j)) (B (node_name k (declarations decls) j)) ≡ quantify (assumptions_put m.map (assumptions base)) (put m.map (type_at types j))
      unfolding t unit_typed
      schemes_are j o =
          let x = node_name k (declarations decls) j in
          let gx : g (node_name k (declarations decls) j) ≡ true = (tests (node_name k (declarations decls) j)).1 (in_names k (declarations decls) group j o) in
          cond_true (g (node_name k (declarations decls) j)) _ _ gx ∙ (cond_true (g (node_name k (declarations decls) j)) _ _ gx
          ∙ (ap (λ A. quantify A (put m.map (variable_at s0.given (place_among k (declarations decls) types s0.given group) (node_name k (declarations decls) j)))) (sym (assumptions_put_closed m.map (assumptions base) shut))
          ∙ ap (λ u. quantify (assumptions_put m.map (assumptions base)) (put m.map u)) (type_is k decls (length nodes) long found.apart rows found.rows_are group (all_one (length nodes) group below) ms open_.members types s0.given open_.placed j o)))

      keeps : IsSolution s2.equations m.map → KeepsEach (is_outer s2.equations s0.given) s2.equations types group (assumptions_put m.map (assumptions base))
      keeps sol j o =
          let gy : g (node_name k (declarations decls) j) ≡ true = (tests (node_name k (declarations decls) j)).1 (in_names k (declarations decls) group j o) in
          let twice : (s0.given + place_among k (declarations decls) types s0.given group (node_name k (declarations decls) j)) + (s0.given + place_among k (declarations decls) types s0.given group (node_name k (declarations decls) j)) ≡ get_or types j 0 + get_or types j 0 =
          ap number_in (type_is k decls (length nodes) long found.apart rows found.rows_are group (all_one (length nodes) group below) ms open_.members types s0.given open_.placed j o) in
          let at : s0.given + place_among k (declarations decls) types s0.given group (node_name k (declarations decls) j) ≡ get_or types j 0 = omega (arith, twice) in
          keeps_outer (list_of k decls) g (assumptions base) B s0 (length group) (place_among k (declarations decls) types s0.given group) (no_facts s0 empty) (λ a f. absurd (shut a f)) (λ y a i. absurd (shutB y a i)) s2 solved m
          (λ y a i. absurd (shutB y a (subst (λ σ. In (Free a) σ) (ap (λ f. f y) (over_closed m.map B shutB)) i))) sol (node_name k (declarations decls) j) (get_or types j 0) (placing (node_name k (declarations decls) j) gy).0 at

      module _ (es2 : List Assumed) (bound_schemes : BindsSchemes k (declarations decls) types m.map (assumptions base) group es0 es2) where
        judged_at : (X : Type 0) (x : X) → AfterJudged {X = X} (list_of k decls) (assumptions base) status g B es2 (Ok x)
        judged_at X x = (
          t,
          sees_after (list_of k decls) L (assumptions base) status g next (names_at k (declarations decls) group) tests B (λ y. cond (g y) (t.schemes y) (B y)) es0 es2 (λ y e. cond_false (g y) _ _ e) sees
              (bound_schemes (λ y. cond (g y) (t.schemes y) (B y)) schemes_are),
        )

  pub judges_refused : (X : Type 0) (s2 : Solving) (es2 : List Assumed) (e : UnifyFault) → ((τ : Identifier → Monotype) → HaveTypesOfAll k decls τ types ms → Refuses (MembersHave k decls types τ ms (assumptions es1)) s1 e) → JudgesGroup {X = X} k decls group base s0 es0 es2 (Err e)
  judges_refused X s2 es2 e n L status g B empty next tests closed shutB sees = refused_at L status g B empty next tests closed shutB sees X es2 e n

  pub judges_solved : (X : Type 0) (added : List Assumed) (s2 : Solving) (es2 : List Assumed) (x : X) → es0 ≡ added ++ base → ((τ : Identifier → Monotype) → HaveTypesOfAll k decls τ types ms → SolvedBy (MembersHave k decls types τ ms (assumptions es1)) s1 s2) → IsClosedGroup nodes group types s0.given s2 es0 es2 → JudgesGroup {X = X} k decls group base s0 es0 es2 (Ok x)
  judges_solved X added s2 es2 x e answers c L status g B empty next tests closed shutB sees =
      judged_at L status g B empty next tests closed shutB sees s2 answers c.0 es2
      (c.1.1 k (declarations decls) found.nodes_are (assumptions base) (keeps L status g B empty next tests closed shutB sees s2 answers c.0 c.1.0)) X x

pub judges_passed : (X : Type 0) (k : Known) (decls : List Declaration) (group : List ℕ) (base : List Assumed) (s0 : Solving) (es0 es2 : List Assumed) (outcome : Result X UnifyFault) (e : UnifyFault) → IsErrAnd outcome (λ y. y ≡ e) → JudgesGroup {X = X} k decls group base s0 es0 es2 (Err e) → JudgesGroup {X = X} k decls group base s0 es0 es2 outcome
judges_passed X k decls group base s0 es0 es2 (Ok x) e i f = absurd i
judges_passed X k decls group base s0 es0 es2 (Err y) e i f = subst (λ z. JudgesGroup {X = X} k decls group base s0 es0 es2 (Err z)) (sym i) f

pub judges_clash : (X : Type 0) (k : Known) (decls : List Declaration) (group : List ℕ) (base : List Assumed) (s0 : Solving) (es0 es1 : List Assumed) (e : UnifyFault) → e ≡ Clash → JudgesGroup {X = X} k decls group base s0 es0 es1 (Err e) → JudgesGroup {X = X} k decls group base s0 es0 es1 (Err Clash)
judges_clash X k decls group base s0 es0 es1 e h j = subst (λ z. JudgesGroup {X = X} k decls group base s0 es0 es1 (Err z)) h j
