-- The units of a list, judged one after the other.
use Rattle.std.proofs.Common.{◌≡◌, ℕ, zero, suc, ◌+◌, ◌<◌, ◌≤◌, ◌||◌, List, [], ◌∷◌, map, drop, length, get_or, replicate, Bool, true, false, cond, ⊎_elim, refl, sym, ap, ◌∙◌, subst, arith, true≢false, Option}
use Rattle.hm_typing.specs.Names.{Identifier, IsDistinct, IsOneOf}
use Rattle.hm_typing.specs.Syntax.{names}
use Rattle.hm_typing.specs.Orders.{AreNumberedGroups, AreTestsOf, IsOrder, Layout}
use Rattle.hm_typing.proofs.Bridge.{signed_name}
use Rattle.hm_typing.proofs.Judge.{opposite}
use Rattle.hm_typing.proofs.Numbering.{numbered}
use Rattle.hm_typing.proofs.Ordering.{layout_of, layout_tests}
use Rattle.hm_typing.proofs.Units.{State}
use Rattle.hm_syntax.specs.Trees.{Declaration}
use Rattle.hm_syntax.specs.Lists.{declarations}
use Rattle.hm_names.specs.Syntax.{Known}
use Rattle.hm_infer_dependencies.specs.Groups.{node_name}
use Rattle.hm_names_keys.specs.Variables.{Variable}
use Rattle.hm_infer_expressions.specs.BoundNames.{Sees}
use Rattle.hm_infer_expressions.specs.Dependences.{IsMarked, UnitJudged, UnitOutcome, skipped, untyped, typed}
use Rattle.hm_infer_context.specs.Environments.{Assumed, AreAssumed, assumptions}
use Rattle.hm_infer.specs.JudgedUnits.{UnitsJudged, no_units, typed_unit, untyped_unit, blocked_unit}
use Rattle.hm_infer_expressions.specs.SignedLists.{BindsSigned}
use Rattle.hm_infer_expressions.specs.Stages.{IsListFound, list_of}
use Rattle.hm_infer_expressions.proofs.GroupAnswers.{in_names}
use Rattle.hm_infer.proofs.JudgedLists.{next_to_typed, state_of}
use Rattle.hm_infer_context.proofs.Suffixes.{drop_more}
use Rattle.hm_infer.proofs.UnitSteps.{blocked, free, named_in}
use Rattle.hm_infer_results.proofs.FaultyGroups.{is_in}

nothing_typed : (n j : ℕ) → get_or (replicate n false) j false ≡ false
nothing_typed zero j = refl
nothing_typed (suc n) zero = refl
nothing_typed (suc n) (suc j) = nothing_typed n j

pub units_start : (k : Known) (decls : List Declaration) (gs : List (List ℕ)) (n : ℕ) → IsDistinct (names (list_of k decls)) → AreNumberedGroups (list_of k decls) (node_name k (declarations decls)) n gs → (base es : List Assumed) → BindsSigned (list_of k decls) base es → (table : List Bool) → table ≡ replicate n false →
    UnitsJudged k decls gs n 0 base es table
units_start k decls gs n d r base es binds table e =
    let ds = list_of k decls in
    let named = map (map (node_name k (declarations decls))) gs in
    let groups = numbered ds (node_name k (declarations decls)) n gs r in
    let L : Layout (list_of k decls) = layout_of ds d named groups in
    let seen = binds L.declared L.are_declared in
    record {
      layout = L;
      finished = λ x. false;
      status = λ x. false;
      schemes = L.declared;
      tests = L.groups;
      tests_are = layout_tests ds d named groups;
      order = L.order;
      units = no_units refl refl refl;
      sees = record {
        known = λ v x w c t. seen.1.1.inside v x w (⊎_elim (λ q. absurd (true≢false (sym q))) (λ i. (seen.1.0 x).1 i) c) t;
        others = λ v x w m t. seen.1.1.outside v x w (λ o. m (signed_name ds x ((seen.1.0 x).0 o))) t;
      };
      table = λ j l. ap (λ z. get_or z j false) e ∙ nothing_typed n j;
    }

or_on : (a b : Bool) → b ≡ true → (a || b) ≡ true
or_on true b e = refl
or_on false b e = e

or_off : (a b : Bool) → b ≡ false → (a || b) ≡ a
or_off true b e = refl
or_off false b e = e

off : (b : Bool) → (b ≡ true → ⊥) → b ≡ false
off true f = absurd (f refl)
off false f = refl

module _ (k : Known) (decls : List Declaration) (nodes : List (Option Variable)) (rows : List (List ℕ)) (found : IsListFound k decls nodes rows) (gs : List (List ℕ)) (n : ℕ) (many : n ≡ length nodes) (i : ℕ) (group : List ℕ) (low : i < length gs) (here : group ≡ get_or gs i group) (numbers : (j : ℕ) → IsOneOf j group → j < length nodes)
    (base es0 es1 : List Assumed) (closed : AreAssumed 0 base) (typed0 typed1 : List Bool) (before : UnitsJudged k decls gs n i base es0 typed0) (unit : UnitJudged k decls nodes rows group base es0 es1 typed0 typed1) where
  state : State (list_of k decls) (assumptions base) before.layout.own before.finished before.status before.schemes
  state = state_of (list_of k decls) (assumptions base) before.layout before.finished before.status before.schemes before.units

  old_table : (j : ℕ) → j < length nodes → get_or typed0 j false ≡ before.status (node_name k (declarations decls) j)
  old_table j l = before.table j (subst (λ m. j < m) (sym many) l)

  module _ (g : Identifier → Bool) (tests : List (Identifier → Bool)) (f : AreTestsOf (g ∷ tests) (map (node_name k (declarations decls)) group ∷ map (map (node_name k (declarations decls))) (drop (i + 1) gs))) (o : IsOrder (list_of k decls) before.layout.own before.finished (g ∷ tests)) where
    group_in : (j : ℕ) → IsOneOf j group → g (node_name k (declarations decls) j) ≡ true
    group_in j q = (f.0 (node_name k (declarations decls) j)).1 (in_names k (declarations decls) group j q)

    group_out : (j : ℕ) → j < length nodes → ¬ (IsOneOf j group) → g (node_name k (declarations decls) j) ≡ false
    group_out j l m = off (g (node_name k (declarations decls) j)) (λ e.
        let h = named_in k (declarations decls) group (node_name k (declarations decls) j) ((f.0 (node_name k (declarations decls) j)).0 e) in
        m (subst (λ z. IsOneOf z group) (found.apart h.0 j (numbers h.0 h.1.0) l h.1.1) h.1.0))

    not_yet : (j : ℕ) → IsOneOf j group → before.status (node_name k (declarations decls) j) ≡ false
    not_yet j q = off (before.status (node_name k (declarations decls) j)) (λ e. opposite (state.sub (node_name k (declarations decls) j) e) (o.0.open_yet (node_name k (declarations decls) j) (group_in j q)))

    table_off : IsMarked group false unit.marked typed1 → (j : ℕ) → j < n → get_or typed1 j false ≡ before.status (node_name k (declarations decls) j)
    table_off m j l = at (is_in j group)
      where
        at : Dec (IsOneOf j group) → get_or typed1 j false ≡ before.status (node_name k (declarations decls) j)
        at (yes q) = (m j).0 q ∙ sym (not_yet j q)
        at (no q) = (m j).1 q ∙ ((unit.is_marked j).1 q ∙ before.table j l)

    table_on : typed1 ≡ unit.marked → (j : ℕ) → j < n → get_or typed1 j false ≡ (before.status (node_name k (declarations decls) j) || g (node_name k (declarations decls) j))
    table_on e j l = ap (λ z. get_or z j false) e ∙ at (is_in j group)
      where
        at : Dec (IsOneOf j group) → get_or unit.marked j false ≡ (before.status (node_name k (declarations decls) j) || g (node_name k (declarations decls) j))
        at (yes q) = (unit.is_marked j).0 q ∙ sym (or_on (before.status (node_name k (declarations decls) j)) (g (node_name k (declarations decls) j)) (group_in j q))
        at (no q) = (unit.is_marked j).1 q ∙ (before.table j l ∙ sym (or_off (before.status (node_name k (declarations decls) j)) (g (node_name k (declarations decls) j)) (group_out j (subst (λ m. j < m) many l) q)))

    by_outcome : UnitOutcome k decls nodes group unit.members base es0 es1 unit.marked typed1 → UnitsJudged k decls gs n (i + 1) base es1 typed1
    by_outcome (skipped t m e) = record {
      layout = before.layout;
      finished = λ y. before.finished y || g y;
      status = before.status;
      schemes = before.schemes;
      tests = tests;
      tests_are = f.1;
      order = o.1;
      units = blocked_unit g before.finished before.units o.0 (blocked k decls nodes rows found before.layout before.finished before.status g o.0 group f.0 numbers typed0 unit.marked unit.is_marked old_table unit.members unit.are_members (λ x y. state.down.mentioned x y) t) refl;
      sees = subst (Sees (list_of k decls) (assumptions base) before.status before.schemes) (sym e) before.sees;
      table = table_off m;
    }
    by_outcome (untyped s0 es2 t em j m e) =
        let free_ = free k decls nodes rows found before.layout before.finished before.status g o.0 group f.0 numbers typed0 unit.marked unit.is_marked old_table unit.members unit.are_members (λ x y. state.down.mentioned x y) t in
        record {
          layout = before.layout;
          finished = λ y. before.finished y || g y;
          status = before.status;
          schemes = before.schemes;
          tests = tests;
          tests_are = f.1;
          order = o.1;
          units = untyped_unit g before.finished before.units o.0 free_ (j before.layout before.status g before.schemes em (next_to_typed (list_of k decls) before.layout.own before.finished g before.status state.sub o.0 free_) f.0 closed state.shut before.sees) refl;
          sees = subst (Sees (list_of k decls) (assumptions base) before.status before.schemes) (sym e) before.sees;
          table = table_off m;
        }
    by_outcome (typed s0 t em j e) =
        let free_ = free k decls nodes rows found before.layout before.finished before.status g o.0 group f.0 numbers typed0 unit.marked unit.is_marked old_table unit.members unit.are_members (λ x y. state.down.mentioned x y) t in
        let r = j before.layout before.status g before.schemes em (next_to_typed (list_of k decls) before.layout.own before.finished g before.status state.sub o.0 free_) f.0 closed state.shut before.sees in
        record {
          layout = before.layout;
          finished = λ y. before.finished y || g y;
          status = λ y. before.status y || g y;
          schemes = λ y. cond (g y) (r.0.schemes y) (before.schemes y);
          tests = tests;
          tests_are = f.1;
          order = o.1;
          units = typed_unit g before.finished before.status before.schemes before.units o.0 free_ r.0 refl refl refl;
          sees = r.1;
          table = table_on e;
        }

  pub unit_step : UnitsJudged k decls gs n (i + 1) base es1 typed1
  unit_step = at before.tests (subst (λ z. AreTestsOf before.tests (map (map (node_name k (declarations decls))) z)) (drop_more gs i group low here) before.tests_are) before.order
    where
      at : (tests : List (Identifier → Bool)) → AreTestsOf tests (map (node_name k (declarations decls)) group ∷ map (map (node_name k (declarations decls))) (drop (i + 1) gs)) → IsOrder (list_of k decls) before.layout.own before.finished tests → UnitsJudged k decls gs n (i + 1) base es1 typed1
      at [] f o = absurd f
      at (g ∷ tests) f o = by_outcome g tests f o unit.outcome

pub units_end : (k : Known) (decls : List Declaration) (gs : List (List ℕ)) (n i : ℕ) (base es : List Assumed) (marks : List Bool) → length gs ≤ i → UnitsJudged k decls gs n i base es marks → UnitsJudged k decls gs n (length gs) base es marks
units_end k decls gs n i base es marks l u = record {
  layout = u.layout;
  finished = u.finished;
  status = u.status;
  schemes = u.schemes;
  tests = u.tests;
  tests_are = subst (λ z. AreTestsOf u.tests (map (map (node_name k (declarations decls))) z)) (Rattle.hm_infer_expressions.proofs.ListSteps.past_end gs i l ∙ sym (Rattle.hm_infer_expressions.proofs.ListSteps.past_end gs (length gs) (omega arith))) u.tests_are;
  order = u.order;
  units = u.units;
  sees = u.sees;
  table = u.table;
}
