-- A binding list is inferred, group after group.
use Rattle.std.proofs.lemmas.Bool.Decides.{nat_tests}
use Rattle.std.proofs.Common.{◌≡◌, ◌==◌, ℕ, zero, suc, ◌+◌, ◌<◌, ◌≤◌, ◌||◌, List, [], ◌∷◌, ◌++◌, map, take, drop, length, get_or, replicate, All, Vec, Global, Bool, true, Result, Ok, Err, IsErrAnd, inl, inr, ⊎_elim, ◌↔◌, refl, sym, ap, ◌∙◌, subst, arith}
use Rattle.std.proofs.lemmas.List.{length-map, take_all, get_or_default}
use Rattle.hm_graph_components.specs.Digraph.{lists}
use Rattle.hm_graph_components.proofs.Rows.{row_at}
use Rattle.hm_infer_context.proofs.Extended.{extended}
use Rattle.hm_infer_expressions.proofs.Naming.{in_place}
use Rattle.hm_typing.specs.Names.{Identifier, IsOneOf, IsDistinct}
use Rattle.hm_typing.specs.Schemes.{Scheme}
use Rattle.hm_typing.specs.Assumptions.{Assumptions, Has, assumptions_put, bind_all}
use Rattle.hm_typing.specs.Syntax.{Bindings, names}
use Rattle.hm_typing.specs.Units.{IsUnsigned}
use Rattle.hm_typing.specs.Orders.{IsOrder, AreTestsOf, Layout, NumberedGroup, NumberedInOrder, AreNumberedGroups}
use Rattle.hm_typing.proofs.Bind.{is_one_of, Has-Sees, Sees-Has, assumptions_put-bind_all}
use Rattle.hm_typing.proofs.Groups.{over}
use Rattle.hm_typing.proofs.Lists.{kind_of}
use Rattle.hm_syntax.specs.Trees.{Declaration}
use Rattle.hm_syntax.specs.Lists.{declarations}
use Rattle.hm_names.specs.Syntax.{Known}
use Rattle.hm_infer_dependencies.specs.Groups.{node_name}
use Rattle.hm_unify.specs.Solving.{Solving}
use Rattle.hm_unify.specs.declared.faults.UnifyFault.{UnifyFault}
use Rattle.hm_unify.specs.declared.faults.UnifyFault.TheVariants.{Clash, Memory}
use Rattle.hm_infer_context.specs.Environments.{Assumed, assumptions, AreAssumed, Extends}
use Rattle.hm_infer_expressions.specs.Lists.{AreAlike, RefusesList, Listed}
use Rattle.hm_infer_expressions.specs.BoundNames.{Sees}
use Rattle.hm_infer_expressions.specs.OpenGroups.{AreUpTo}
use Rattle.hm_infer_expressions.specs.Stages.{IsStage, list_of, ClosesGroup, InfersGroup}
use Rattle.hm_infer_context.proofs.Suffixes.{drop_more}

-- the groups from i on are left
pub record ListStage (k : Known) (decls : List Declaration) (gs : List (List ℕ)) (i : ℕ) (s0 : Solving) (es0 : List Assumed) (s : Solving) (es : List Assumed) : Type 0 where
  pub layout : Layout (list_of k decls)
  pub finished : Identifier → Bool
  pub schemes : Identifier → Scheme
  pub tests : List (Identifier → Bool)
  pub tests_are : AreTestsOf tests (map (map (node_name k (declarations decls))) (drop i gs))
  pub order : IsOrder (list_of k decls) layout.own finished tests
  pub stage : IsStage (list_of k decls) layout (assumptions es0) finished schemes s0 s
  pub sees : Sees (list_of k decls) (assumptions es0) finished schemes es

pub record GroupsInferred (k : Known) (decls : List Declaration) (gs : List (List ℕ)) (n : ℕ) (types : List ℕ) (i : ℕ) (s0 : Solving) (es0 : List Assumed) (s : Solving) (es : List Assumed) : Type 0 where
  pub sized : length types ≡ n
  pub numbers : AreUpTo s.given types
  pub assumed : AreAssumed s.given es
  pub added : Extends es0 es
  pub closed : AreAssumed 0 es0 → AreAssumed 0 es
  pub stage : ListStage k decls gs i s0 es0 s es

-- a group, and the next stage
pub list_step : (X : Type 0) (k : Known) (decls : List Declaration) (gs : List (List ℕ)) (i : ℕ) (group : List ℕ) (s0 s s1 : Solving) (es0 es es1 : List Assumed) (x : X) → i < length gs → group ≡ get_or gs i group → AreAssumed s0.given es0 → ListStage k decls gs i s0 es0 s es → InfersGroup {X = X} k decls group es0 s es s1 es1 (Ok x) → ListStage k decls gs (i + 1) s0 es0 s1 es1
list_step X k decls gs i group s0 s s1 es0 es es1 x l e a st infers = at st.tests (subst (λ z. AreTestsOf st.tests (map (map (node_name k (declarations decls))) z)) (drop_more gs i group l e) st.tests_are) st.order
  where
    at : (tests : List (Identifier → Bool)) → AreTestsOf tests (map (node_name k (declarations decls)) group ∷ map (map (node_name k (declarations decls))) (drop (i + 1) gs)) → IsOrder (list_of k decls) st.layout.own st.finished tests → ListStage k decls gs (i + 1) s0 es0 s1 es1
    at [] f o = absurd f
    at (g ∷ tests) f o =
        let n = infers st.layout st.finished g st.schemes s0 o.0 f.0 a st.stage st.sees in
        record { layout = st.layout; finished = λ y. st.finished y || g y; schemes = n.0; tests = tests; tests_are = f.1; order = o.1; stage = n.1.0; sees = n.1.1 }

pub list_refused : (X : Type 0) (k : Known) (decls : List Declaration) (gs : List (List ℕ)) (i : ℕ) (group : List ℕ) (s0 s s1 : Solving) (es0 es es1 : List Assumed) (x : UnifyFault) → i < length gs → group ≡ get_or gs i group → AreAssumed s0.given es0 → ListStage k decls gs i s0 es0 s es → InfersGroup {X = X} k decls group es0 s es s1 es1 (Err x) → RefusesList (list_of k decls) s0 es0 x
list_refused X k decls gs i group s0 s s1 es0 es es1 x l e a st infers = at st.tests (subst (λ z. AreTestsOf st.tests (map (map (node_name k (declarations decls))) z)) (drop_more gs i group l e) st.tests_are) st.order
  where
    at : (tests : List (Identifier → Bool)) → AreTestsOf tests (map (node_name k (declarations decls)) group ∷ map (map (node_name k (declarations decls))) (drop (i + 1) gs)) → IsOrder (list_of k decls) st.layout.own st.finished tests → RefusesList (list_of k decls) s0 es0 x
    at [] f o = absurd f
    at (g ∷ tests) f o = infers st.layout st.finished g st.schemes s0 o.0 f.0 a st.stage st.sees

-- and nothing is free after it where nothing was
pub list_closed : (k : Known) (decls : List Declaration) (gs : List (List ℕ)) (i : ℕ) (group : List ℕ) (s0 s : Solving) (es0 es es1 : List Assumed) → i < length gs → group ≡ get_or gs i group → AreAssumed s0.given es0 → ListStage k decls gs i s0 es0 s es → ClosesGroup k decls group es0 s es es1 → AreAssumed 0 es0 → AreAssumed 0 es → AreAssumed 0 es1
list_closed k decls gs i group s0 s es0 es es1 l e a st closes = at st.tests (subst (λ z. AreTestsOf st.tests (map (map (node_name k (declarations decls))) z)) (drop_more gs i group l e) st.tests_are) st.order
  where
    at : (tests : List (Identifier → Bool)) → AreTestsOf tests (map (node_name k (declarations decls)) group ∷ map (map (node_name k (declarations decls))) (drop (i + 1) gs)) → IsOrder (list_of k decls) st.layout.own st.finished tests → AreAssumed 0 es0 → AreAssumed 0 es → AreAssumed 0 es1
    at [] f o = absurd f
    at (g ∷ tests) f o = closes st.layout st.finished g st.schemes s0 o.0 f.0 a st.stage st.sees

-- the end

pub alike : (ds : Bindings) (A : Assumptions) (finished : Identifier → Bool) (B : Identifier → Scheme) (es : List Assumed) → ((x : Identifier) → IsUnsigned x ds → finished x ≡ true) → Sees ds A finished B es → AreAlike (assumptions es) (bind_all (names ds) B A)
alike ds A finished B es done sees r x w t = at (is_one_of x (names ds))
  where
    put_all : assumptions_put r (bind_all (names ds) B A) ≡ bind_all (names ds) (over r B) (assumptions_put r A)
    put_all = assumptions_put-bind_all r (names ds) B A

    at : Dec (IsOneOf x (names ds)) → Has (assumptions_put r (assumptions es)) x t ↔ Has (assumptions_put r (bind_all (names ds) B A)) x t
    at (yes o) =
        let k = sees.known r x w (⊎_elim (λ u. inl (done x u)) inr (kind_of ds x o)) t in (
          (λ h. subst (λ C. Has C x t) (sym put_all) (Sees-Has (names ds) (over r B) (assumptions_put r A) x t (inl (o, k.0 h)))),
          (λ h. k.1 (⊎_elim (λ q. q.1) (λ q. absurd (q.0 o)) (Has-Sees (names ds) (over r B) (assumptions_put r A) x t (subst (λ C. Has C x t) put_all h)))),
        )
    at (no n) =
        let k = sees.others r x w n t in (
          (λ h. subst (λ C. Has C x t) (sym put_all) (Sees-Has (names ds) (over r B) (assumptions_put r A) x t (inr (n, k.0 h)))),
          (λ h. k.1 (⊎_elim (λ q. absurd (n q.0)) (λ q. q.1) (Has-Sees (names ds) (over r B) (assumptions_put r A) x t (subst (λ C. Has C x t) put_all h)))),
        )

pub past_end : {X : Type 0} (xs : List X) (i : ℕ) → length xs ≤ i → drop i xs ≡ []
past_end [] zero l = refl
past_end [] (suc i) l = refl
past_end (x ∷ xs) zero l = absurd (omega arith)
past_end (x ∷ xs) (suc i) l = past_end xs i (omega arith)

-- what is known of a group of nodes

numbered_at : (ds : Bindings) (name : ℕ → Identifier) (n : ℕ) (before : List ℕ) (gs : List (List ℕ)) (i : ℕ) (group : List ℕ) → NumberedInOrder ds name n before gs → i < length gs → group ≡ get_or gs i group → (earlier : List ℕ) × NumberedGroup ds name n earlier group
numbered_at ds name n before [] i group o l e = absurd (omega arith)
numbered_at ds name n before (g ∷ gs) zero group o l e = (before, subst (NumberedGroup ds name n before) (sym e) o.0)
numbered_at ds name n before (g ∷ gs) (suc i) group o l e = numbered_at ds name n (before ++ g) gs i group o.1 (omega arith) e

pub group_below : (ds : Bindings) (name : ℕ → Identifier) (n : ℕ) (gs : List (List ℕ)) (i : ℕ) (group : List ℕ) → AreNumberedGroups ds name n gs → i < length gs → group ≡ get_or gs i group → All (λ j. j < n) group
group_below ds name n gs i group r l e = let g = numbered_at ds name n [] gs i group r.in_order l e in λ p d h. ((g.1.members (get_or group p d)).0 (in_place group p d h)).0

not_empty : (xs : List ℕ) (x : ℕ) → IsOneOf x xs → 0 < length xs
not_empty [] x o = absurd o
not_empty (y ∷ xs) x o = omega arith

pub group_some : (ds : Bindings) (name : ℕ → Identifier) (n : ℕ) (gs : List (List ℕ)) (i : ℕ) (group : List ℕ) → AreNumberedGroups ds name n gs → i < length gs → group ≡ get_or gs i group → 0 < length group
group_some ds name n gs i group r l e = let g = numbered_at ds name n [] gs i group r.in_order l e in not_empty group g.1.first ((g.1.members g.1.first).1 (g.1.number, inl refl))

pub zeroes_up_to : (g n : ℕ) (types : List ℕ) → types ≡ replicate n 0 → AreUpTo g types
zeroes_up_to g n types e j l = subst (λ z. get_or z j 0 ≤ g) (sym e) (at n j)
  where
    at : (m i : ℕ) → get_or (replicate m 0) i 0 ≤ g
    at zero i = omega arith
    at (suc m) zero = omega arith
    at (suc m) (suc i) = at m i

pub is_zero : (n : ℕ) → (n == 0) ≡ true → n ≡ 0
is_zero n e = grind (arith, nat_tests)

-- a group among the vectors
pub group_at : (rows : List (Vec ℕ Global)) (i : ℕ) (v : Vec ℕ Global) (group : List ℕ) → i < length rows → v ≡ get_or rows i v → group ≡ v.items → group ≡ get_or (lists rows) i group
group_at rows i v group l e f = f ∙ (sym (row_at rows i v l e) ∙ get_or_default (lists rows) i [] group (let h = length-map rows (λ r. r.items) in omega (arith, h, l)))

pub rows_long : (rows : List (Vec ℕ Global)) (i : ℕ) → i < length rows → i < length (lists rows)
rows_long rows i l = let h = length-map rows (λ r. r.items) in omega (arith, h, l)

-- a vector that was written to as a slice
pub written_to : {X : Type 0} (new old : List X) (n : ℕ) → n ≡ length old → length new ≡ length old → take n (new ++ drop (length new) old) ≡ new
written_to {X} new old n e f =
    let none : drop (length new) old ≡ [] = past_end old (length new) (omega arith) in
    ap (λ z. take n (new ++ z)) none ∙ (ap (take n) (append_none new) ∙ take_all n new (omega arith))
  where
    append_none : (xs : List X) → xs ++ [] ≡ xs
    append_none [] = refl
    append_none (x ∷ xs) = ap (λ z. x ∷ z) (append_none xs)

pub listed_passed : (X : Type 0) (ds : Bindings) (s : Solving) (es : List Assumed) (s' : Solving) (es' : List Assumed) (outcome : Result X UnifyFault) (e : UnifyFault) → IsErrAnd outcome (λ y. y ≡ e) → RefusesList ds s es e → Listed {X = X} ds s es s' es' outcome
listed_passed X ds s es s' es' (Ok x) e i r = absurd i
listed_passed X ds s es s' es' (Err y) e i r = subst (RefusesList ds s es) (sym i) r

-- a list that binds a name twice has no typing
pub repeated_refused : (ds : Bindings) (s : Solving) (es : List Assumed) (e : UnifyFault) → (e ≡ Clash → ¬ (IsDistinct (names ds))) → RefusesList ds s es e
repeated_refused ds s es Clash n = λ r u B d. n refl d.units.0
repeated_refused ds s es Memory n = tt

pub next_stage : (k : Known) (decls : List Declaration) (gs : List (List ℕ)) (n : ℕ) (i : ℕ) (types types1 group : List ℕ) (s0 s s1 : Solving) (es0 es es1 : List Assumed) → AreAssumed s0.given es0 → GroupsInferred k decls gs n types i s0 es0 s es → i < length gs → group ≡ get_or gs i group → InfersGroup {X = Unit {0}} k decls group es0 s es s1 es1 (Ok tt) →
    length types1 ≡ n → AreUpTo s1.given types1 → AreAssumed s1.given es1 → Extends es es1 → ClosesGroup k decls group es0 s es es1 → GroupsInferred k decls gs n types1 (i + 1) s0 es0 s1 es1
next_stage k decls gs n i types types1 group s0 s s1 es0 es es1 a g l e infers sized numbers assumed added closes = record {
  sized = sized;
  numbers = numbers;
  assumed = assumed;
  added = extended es0 es es1 g.added added;
  closed = λ b. list_closed k decls gs i group s0 s es0 es es1 l e a g.stage closes b (g.closed b);
  stage = list_step (Unit {0}) k decls gs i group s0 s s1 es0 es es1 tt l e a g.stage infers;
}
