-- A group of a list is inferred: from one stage to the next.
use Rattle.std.proofs.Common.{◌≡◌, ℕ, ◌+◌, ◌<◌, ◌||◌, List, length, get_or, Bool, true, false, inl, inr, ◌⊎◌, ⊎_elim, ◌↔◌, refl, sym, ap, ◌∙◌, subst, arith, true≢false}
use Rattle.std.specs.Bool.{Decides}
use Rattle.hm_types.specs.Types.{Var, App, put}
use Rattle.hm_typing.specs.Names.{Identifier, IsOneOf}
use Rattle.hm_typing.specs.Schemes.{Monotype, Scheme, IsInstance, scheme_put, monomorphic}
use Rattle.hm_typing.specs.Assumptions.{Assumptions, FreeIn, Has, assumptions_put}
use Rattle.hm_typing.specs.Generalisation.{quantify}
use Rattle.hm_typing.specs.Syntax.{Bindings, names}
use Rattle.hm_typing.specs.Units.{IsSigned}
use Rattle.hm_typing.specs.Problems.{MostGeneralUnifier}
use Rattle.hm_typing.specs.Orders.{IsNext, Layout}
use Rattle.hm_typing.proofs.SchemeLaws.{AssumptionsBelow}
use Rattle.hm_typing.proofs.Groups.{GroupQ, cond_true, cond_false}
use Rattle.hm_typing.proofs.Bridge.{unsigned_name}
use Rattle.hm_syntax.specs.Trees.{Declaration}
use Rattle.hm_syntax.specs.Lists.{declarations}
use Rattle.hm_names.specs.Syntax.{Known}
use Rattle.hm_infer_dependencies.specs.declared.members.Member.{Member}
use Rattle.hm_infer_dependencies.specs.Nodes.{list_nodes}
use Rattle.hm_infer_dependencies.specs.Groups.{node_name}
use Rattle.hm_infer_dependencies.specs.Members.{AreRows}
use Rattle.hm_infer_dependencies.specs.GroupMembers.{AreMembersOf}
use Rattle.hm_typing.proofs.Principal.{assumptions_put_closed}
use Rattle.hm_unify.specs.Bindings.{solution}
use Rattle.hm_unify.specs.Levels.{is_outer}
use Rattle.hm_unify.specs.Solving.{Solving}
use Rattle.hm_unify.specs.declared.faults.UnifyFault.{UnifyFault}
use Rattle.hm_infer_context.specs.Problems.{problem, bound, Refuses, given_more}
use Rattle.hm_infer_context.specs.Environments.{Assumed, assumptions, AreAssumed}
use Rattle.hm_infer_expressions.specs.Lists.{IsWritten, RefusesList}
use Rattle.hm_infer_expressions.specs.GroupQuestions.{type_at, MembersHave, HaveTypesOfAll}
use Rattle.hm_infer_expressions.specs.BoundNames.{Binds, BindsTypes, BindsSchemes, Sees, names_at, ArePlaced}
use Rattle.hm_infer_generalisation.specs.Generalisations.{IsSolution, KeepsEach, KeepsNone}
use Rattle.hm_infer_expressions.specs.Stages.{IsStage, list_of, AreApart}
use Rattle.hm_infer_context.proofs.Outcomes.{SolvedBy, solved_same, pass_on}
use Rattle.hm_infer_context.proofs.FoundNames.{assumed_below}
use Rattle.hm_infer_expressions.proofs.OuterVariables.{keeps_outer, keeps_none}
use Rattle.hm_infer_expressions.proofs.PrincipalLists.{closed_assumptions}
use Rattle.hm_infer_context.proofs.States.{more_rest}
use Rattle.hm_infer_expressions.proofs.Steps.{variable_at, made}
use Rattle.hm_infer_expressions.proofs.Stages.{stage_group, stage_refused}
use Rattle.hm_infer_expressions.proofs.GroupAnswers.{place_among, all_placed, type_is, types_are, question_to, question_from, in_names}

abbrev number_in : Monotype → ℕ
number_in (Var a) = a
number_in (App h ts) = 0

bool_cases : (b : Bool) → (b ≡ true) ⊎ (b ≡ false)
bool_cases true = inl refl
bool_cases false = inr refl

or_true : (a b : Bool) → (a || b) ≡ true → (a ≡ true) ⊎ (b ≡ true)
or_true true b e = inl refl
or_true false b e = inr e

-- what is seen after the names of a group are bound to their schemes
pub sees_after : (ds : Bindings) (L : Layout ds) (A : Assumptions) (finished g : Identifier → Bool) → IsNext ds L.own finished g → (xs : List Identifier) → ((y : Identifier) → Decides (g y) (IsOneOf y xs)) → (B B' : Identifier → Scheme) (es es' : List Assumed) → ((y : Identifier) → g y ≡ false → B' y ≡ B y) →
    Sees ds A finished B es → Binds xs B' es es' → Sees ds A (λ y. finished y || g y) B' es'
sees_after ds L A finished g next xs tests B B' es es' keep sees binds = record {
  known = λ r x w c t. known r x w c t (bool_cases (g x));
  others = λ r x w n t.
      let out : ¬ (IsOneOf x xs) = λ o. n (unsigned_name ds x ((L.units.1 x x).0 (next.unit x x ((tests x).1 o) ((tests x).1 o))).0) in
      let b = binds.outside r x w out t in
      let s = sees.others r x w n t in
      ((λ h. s.0 (b.0 h)), (λ h. b.1 (s.1 h)));
}
  where
    known : (r : ℕ → Monotype) (x : Identifier) → IsWritten x → ((finished x || g x) ≡ true) ⊎ IsSigned x ds → (t : Monotype) → (g x ≡ true) ⊎ (g x ≡ false) → Has (assumptions_put r (assumptions es')) x t ↔ IsInstance t (scheme_put r (B' x))
    known r x w c t (inl e) = binds.inside r x w ((tests x).0 e) t
    known r x w c t (inr e) =
        let b = binds.outside r x w (λ o. true≢false (sym ((tests x).1 o) ∙ e)) t in
        let s = sees.known r x w (⊎_elim (λ f. ⊎_elim inl (λ q. absurd (true≢false (sym q ∙ e))) (or_true (finished x) (g x) f)) inr c) t in
        let k = keep x e in (
          (λ h. subst (λ σ. IsInstance t (scheme_put r σ)) (sym k) (s.0 (b.0 h))),
          (λ i. b.1 (s.1 (subst (λ σ. IsInstance t (scheme_put r σ)) k i))),
        )

module _ (k : Known) (decls : List Declaration) (n : ℕ) (long : n ≡ length (list_nodes (declarations decls) (declarations decls))) (apart : AreApart k decls n) (rows : List (List ℕ)) (are_rows : AreRows decls n rows) (group : List ℕ) (numbers : (j : ℕ) → IsOneOf j group → j < n) (ms : List Member) (are_members : AreMembersOf rows group ms)
    (types : List ℕ) (first : ℕ) (are_placed : ArePlaced first group types) (base es0 es1 : List Assumed) (s0 s0' : Solving) (given : s0' ≡ given_more s0 (length group)) (starts : first ≡ s0.given) (bound_types : BindsTypes k (declarations decls) types group es0 es1) where
  module _ (L : Layout (list_of k decls)) (finished g : Identifier → Bool) (B : Identifier → Scheme) (s : Solving) (next : IsNext (list_of k decls) L.own finished g) (tests : (y : Identifier) → Decides (g y) (IsOneOf y (names_at k (declarations decls) group))) (assumed : AreAssumed s.given base)
      (stage : IsStage (list_of k decls) L (assumptions base) finished B s s0) (sees : Sees (list_of k decls) (assumptions base) finished B es0) where
    abbrev τ : Identifier → Monotype
    τ = variable_at first (place_among k (declarations decls) types first group)

    binds : Binds (names_at k (declarations decls) group) (λ x. monomorphic (variable_at first (place_among k (declarations decls) types first group) x)) es0 es1
    binds = bound_types (variable_at first (place_among k (declarations decls) types first group)) (λ j o. type_is k decls n long apart rows are_rows group numbers ms are_members types first are_placed j o)

    typed_all : HaveTypesOfAll k decls (variable_at first (place_among k (declarations decls) types first group)) types ms
    typed_all = types_are k decls n long apart rows are_rows group numbers ms are_members types first are_placed L finished g next tests

    low : AssumptionsBelow (bound s) (assumptions base)
    low = assumed_below s.given base assumed

    placing : (x : Identifier) → g x ≡ true → (place_among k (declarations decls) types first group x < length group) × (node_name k (declarations decls) (get_or group (place_among k (declarations decls) types first group x) 0) ≡ x)
    placing = all_placed k decls n long apart rows are_rows group numbers ms are_members types first are_placed L finished g next tests

    to : (r : ℕ → Monotype) → MembersHave k decls types (variable_at first (place_among k (declarations decls) types first group)) ms (assumptions es1) r → GroupQ g (names (list_of k decls)) (assumptions base) B (variable_at s0.given (place_among k (declarations decls) types first group)) (list_of k decls) r
    to r p = subst (λ f. GroupQ g (names (list_of k decls)) (assumptions base) B (variable_at f (place_among k (declarations decls) types first group)) (list_of k decls) r) starts (question_to k decls n long apart rows are_rows group numbers ms are_members types first are_placed L finished g next tests B base es0 es1 sees binds r p)

    from : (r : ℕ → Monotype) → GroupQ g (names (list_of k decls)) (assumptions base) B (variable_at s0.given (place_among k (declarations decls) types first group)) (list_of k decls) r → MembersHave k decls types (variable_at first (place_among k (declarations decls) types first group)) ms (assumptions es1) r
    from r p = question_from k decls n long apart rows are_rows group numbers ms are_members types first are_placed L finished g next tests B base es0 es1 sees binds r (subst (λ f. GroupQ g (names (list_of k decls)) (assumptions base) B (variable_at f (place_among k (declarations decls) types first group)) (list_of k decls) r) (sym starts) p)

    -- the group has no solution
    pub refused : (e : UnifyFault) → ((ρ : Identifier → Monotype) → HaveTypesOfAll k decls ρ types ms → Refuses (MembersHave k decls types ρ ms (assumptions es1)) s0' e) → RefusesList (list_of k decls) s base e
    refused e n_ =
        stage_refused (list_of k decls) L base finished g next B s s0 assumed stage (length group) (place_among k (declarations decls) types first group) (λ p. node_name k (declarations decls) (get_or group p 0)) placing e
        (pass_on {P = GroupQ g (names (list_of k decls)) (assumptions base) B (variable_at s0.given (place_among k (declarations decls) types first group)) (list_of k decls)} {Q = MembersHave k decls types (variable_at first (place_among k (declarations decls) types first group)) ms (assumptions es1)} (given_more s0 (length group)) (given_more s0 (length group)) e
        (λ r u p. (r, u, from r p)) (subst (λ z. Refuses (MembersHave k decls types (variable_at first (place_among k (declarations decls) types first group)) ms (assumptions es1)) z e) given (n_ _ typed_all)))

    module _ (s1 : Solving) (answers : (ρ : Identifier → Monotype) → HaveTypesOfAll k decls ρ types ms → SolvedBy (MembersHave k decls types ρ ms (assumptions es1)) s0' s1) (m : MostGeneralUnifier (problem s1)) where
      solved : SolvedBy (GroupQ g (names (list_of k decls)) (assumptions base) B (variable_at s0.given (place_among k (declarations decls) types first group)) (list_of k decls)) (given_more s0 (length group)) s1
      solved = subst (λ z. SolvedBy (GroupQ g (names (list_of k decls)) (assumptions base) B (variable_at s0.given (place_among k (declarations decls) types first group)) (list_of k decls)) z s1) given
          (solved_same {P = MembersHave k decls types (variable_at first (place_among k (declarations decls) types first group)) ms (assumptions es1)} {Q = GroupQ g (names (list_of k decls)) (assumptions base) B (variable_at s0.given (place_among k (declarations decls) types first group)) (list_of k decls)} s0' s1 to from (answers _ typed_all))

      abbrev B' : Identifier → Scheme
      B' = made g (assumptions base) s0.given (place_among k (declarations decls) types first group) B s1 m

      schemes_are : (j : ℕ) → IsOneOf j group → made g (assumptions base) s0.given (place_among k (declarations decls) types first group) B s1 m (node_name k (declarations decls) j) ≡ quantify (assumptions_put m.map (assumptions base)) (put m.map (type_at types j))
      schemes_are j o =
          cond_true (g (node_name k (declarations decls) j)) _ _ ((tests (node_name k (declarations decls) j)).1 (in_names k (declarations decls) group j o))
          ∙ ap (λ t. quantify (assumptions_put m.map (assumptions base)) (put m.map t)) (ap (λ f. variable_at f (place_among k (declarations decls) types first group) (node_name k (declarations decls) j)) (sym starts) ∙ type_is k decls n long apart rows are_rows group numbers ms are_members types first are_placed j o)

      -- of the variables of the group's types those are outer that are free in what is assumed outside the list
      pub keeps : IsSolution s1.equations m.map → KeepsEach (is_outer s1.equations s0.given) s1.equations types group (assumptions_put m.map (assumptions base))
      keeps sol j o =
          let y = node_name k (declarations decls) j in
          let gy : g (node_name k (declarations decls) j) ≡ true = (tests (node_name k (declarations decls) j)).1 (in_names k (declarations decls) group j o) in
          let is : variable_at first (place_among k (declarations decls) types first group) (node_name k (declarations decls) j) ≡ type_at types j = type_is k decls n long apart rows are_rows group numbers ms are_members types first are_placed j o in
          let twice : (first + place_among k (declarations decls) types first group (node_name k (declarations decls) j)) + (first + place_among k (declarations decls) types first group (node_name k (declarations decls) j)) ≡ get_or types j 0 + get_or types j 0 = ap number_in is in
          let at : s0.given + place_among k (declarations decls) types first group (node_name k (declarations decls) j) ≡ get_or types j 0 = omega (arith, twice, starts) in
          keeps_outer (list_of k decls) g (assumptions base) B s0 (length group) (place_among k (declarations decls) types first group) stage.below (λ a f. let l = low a f in let h = stage.grows in omega arith) stage.schemes.below s1 solved m
          (λ y a i. stage.schemes.inner m.map (more_rest s0 (length group) m.map (solved.sound m.map m.unifies).0) y a i) sol (node_name k (declarations decls) j) (get_or types j 0) (placing (node_name k (declarations decls) j) gy).0 at

      pub keeps_nothing : IsSolution s1.equations m.map → AreAssumed 0 base → KeepsNone (is_outer s1.equations s0.given) s1.equations types group
      keeps_nothing sol closed j o l i =
          keeps_none (is_outer s1.equations s0.given) (solution s1.equations (get_or types j 0)) (assumptions_put m.map (assumptions base)) (keeps sol j o)
          (λ a f. let shut = closed_assumptions base closed in shut a (subst (FreeIn a) (assumptions_put_closed m.map (assumptions base) shut) f)) l i

      module _ (es2 : List Assumed) (bound_schemes : BindsSchemes k (declarations decls) types m.map (assumptions base) group es0 es2) where
        pub inferred : (C : Identifier → Scheme) × (IsStage (list_of k decls) L (assumptions base) (λ y. finished y || g y) C s s1 × Sees (list_of k decls) (assumptions base) (λ y. finished y || g y) C es2)
        inferred = (
          made g (assumptions base) s0.given (place_among k (declarations decls) types first group) B s1 m,
          (
            stage_group (list_of k decls) L (assumptions base) finished g next B s s0 low stage (length group) (place_among k (declarations decls) types first group) (λ p. node_name k (declarations decls) (get_or group p 0)) placing s1 solved m,
            sees_after (list_of k decls) L (assumptions base) finished g next (names_at k (declarations decls) group) tests B (made g (assumptions base) s0.given (place_among k (declarations decls) types first group) B s1 m) es0 es2 (λ y e. cond_false (g y) _ _ e) sees
                (bound_schemes (made g (assumptions base) s0.given (place_among k (declarations decls) types first group) B s1 m) schemes_are),
          ),
        )
