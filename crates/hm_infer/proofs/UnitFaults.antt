-- The units of a list that are type faults, by the table of the nodes that have types.
use Rattle.std.proofs.Common.{◌≡◌, ℕ, zero, suc, ◌+◌, ◌<◌, List, [], ◌∷◌, ◌++◌, map, length, get_or, Bool, true, false, cond, Option, inl, inr, ◌⊎◌, ⊎_elim, refl, sym, ap, ◌∙◌, subst, arith, true≢false}
use Rattle.std.specs.Bool.{Decides}
use Rattle.hm_typing.specs.Names.{Identifier, IsOneOf}
use Rattle.hm_typing.specs.Schemes.{Scheme}
use Rattle.hm_typing.specs.Assumptions.{Assumptions, IsClosed}
use Rattle.hm_typing.specs.Syntax.{Bindings, no_binding, unsigned, signed, matched, names}
use Rattle.hm_typing.specs.Units.{BindingMentions, DependsOn, IsSigned, IsUnsigned, Reaches, directly, through, SameUnit}
use Rattle.hm_typing.specs.Orders.{AreNumberedGroups, AreTestsOf, IsNext, IsOrder, IsReady, Layout, NumberedGroup, NumberedInOrder}
use Rattle.hm_typing.specs.Verdicts.{IsTypeFault}
use Rattle.hm_typing.proofs.Bridge.{one_kind}
use Rattle.hm_typing.proofs.Faults.{SignedOf, SignedOf-all, typable_from, typable_to}
use Rattle.hm_typing.proofs.FaultLists.{SameUnit-sym, SameUnit-trans, closure_down, depends_down, own_same, reach_from, same_own}
use Rattle.hm_typing.proofs.Judge.{Closure, Judged, Reaches-unsigned, opposite, reach_typed}
use Rattle.hm_typing.proofs.Numbering.{numbered}
use Rattle.hm_syntax.specs.Trees.{Declaration}
use Rattle.hm_syntax.specs.Lists.{declarations}
use Rattle.hm_names.specs.Syntax.{Known}
use Rattle.hm_infer_dependencies.specs.Groups.{node_name}
use Rattle.hm_names_keys.specs.Variables.{Variable}
use Rattle.hm_infer_expressions.specs.BoundNames.{names_at}
use Rattle.hm_infer_context.specs.Environments.{Assumed, AreAssumed, assumptions}
use Rattle.hm_infer.specs.JudgedUnits.{IsBlocked, IsFreeToJudge, Units, UnitsJudged}
use Rattle.hm_infer_expressions.specs.Stages.{IsListFound, list_of}
use Rattle.hm_infer_results.specs.UnitFaults.{AreGroupsTold, ArePlainGroups, GroupTold, has_none, has_types}
use Rattle.hm_infer_expressions.proofs.GroupAnswers.{in_names}
use Rattle.hm_infer.proofs.JudgedLists.{state_of}
use Rattle.hm_infer_expressions.proofs.ListSteps.{past_end}
use Rattle.hm_infer_expressions.proofs.PrincipalLists.{closed_assumptions}
use Rattle.hm_infer.proofs.UnitSteps.{blocked, free}

-- Units, by what is typed in the end

module _ (ds : Bindings) (A : Assumptions) (shut : IsClosed A) (L : Layout ds) (finished status : Identifier → Bool) (B : Identifier → Scheme) (u : Units ds A L finished status B) (all : (x : Identifier) → IsUnsigned x ds → finished x ≡ true) where
  judged : Judged ds A L.own
  judged = record { finished = finished; status = status; schemes = B; state = state_of ds A L finished status B u; all = all }

  typed_down : {v z : Identifier} → status v ≡ true → Reaches ds v z → status z ≡ true
  unfolding judged
  typed_down s p = reach_typed ds L.own status judged.state.down s p

  module _ (x : Identifier) (ux : IsUnsigned x ds) where
    signed_ones : (U : Identifier → Type 0) (C : Assumptions) → ((y : Identifier) → U y → IsUnsigned y ds) → SignedOf U C ds
    signed_ones U C f = SignedOf-all ds U C (λ y i w. absurd (one_kind ds L.units.0 y i (f y w)))

    path : IsFreeToJudge ds (L.own x) status → {v z : Identifier} → L.own x v ≡ true → Reaches ds v z → L.own x z ≡ false → status z ≡ true
    path f {v} {z} o (directly r) b = f v z o r.0 r.1 b
    path f {v} {z} o (through {y = w} r p) b = next (λ e. path f e p b) (L.own x w) refl
      where
        next : (L.own x w ≡ true → status z ≡ true) → (c : Bool) → L.own x w ≡ c → status z ≡ true
        next ih true e = ih e
        next ih false e = typed_down (f v w o r.0 r.1 e) p

    own_self : L.own x x ≡ true
    own_self = (L.units.1 x x).1 (ux, ux, inl refl)

    outside_at : (y : Identifier) → DependsOn ds x y → L.own x y ≡ false
    outside_at y d = off (L.own x y) (λ e. d.1 (own_same ds L.own L.units x y e))
      where
        off : (b : Bool) → (b ≡ true → ⊥) → b ≡ false
        off true f = absurd (f refl)
        off false f = refl

    pub free_fault : IsFreeToJudge ds (L.own x) status → status x ≡ false → IsTypeFault A ds x
    unfolding judged
    free_fault f s = (
      typable_from ds L.own L.units A shut judged (DependsOn ds x) (λ y i d. path f own_self d.0 (outside_at y d)) (signed_ones (DependsOn ds x) _ (λ y d. Reaches-unsigned ds d.0)),
      λ q. opposite ((typable_to ds L.own L.units A shut judged (Closure ds x) (closure_down ds L.own L.units x) q).0 x ux (inr (inl refl))) s,
    )

    closure_reached : (y : Identifier) → Closure ds x y → (x ≡ y) ⊎ Reaches ds x y
    closure_reached y (inl d) = inr d.0
    closure_reached y (inr (inl e)) = inl e
    closure_reached y (inr (inr p)) = inr p.0

    pub typed_no_fault : status x ≡ true → ¬ (IsTypeFault A ds x)
    unfolding judged
    typed_no_fault s p = p.1 (typable_from ds L.own L.units A shut judged (Closure ds x)
        (λ y i c. ⊎_elim (λ e. subst (λ z. status z ≡ true) e s) (λ r. typed_down s r) (closure_reached y c))
        (signed_ones (Closure ds x) _ (λ y c. ⊎_elim (λ e. subst (λ z. IsUnsigned z ds) e ux) (λ r. Reaches-unsigned ds r) (closure_reached y c))))

    pub blocked_no_fault : IsBlocked ds (L.own x) status → ¬ (IsTypeFault A ds x)
    unfolding judged
    blocked_no_fault b p = opposite ((typable_to ds L.own L.units A shut judged (DependsOn ds x) (depends_down ds L.own L.units x) p.0).0 b.other b.without_signature (
      reach_from ds (SameUnit-sym ds (own_same ds L.own L.units x b.name b.member)) (directly (b.mentioned, b.without_signature)),
      λ t. opposite (same_own ds L.own L.units x b.other b.without_signature t) b.outside,
    )) b.untyped

-- A unit is next where all others are finished

module _ (ds : Bindings) (L : Layout ds) (x : Identifier) where
  abbrev pub others : Identifier → Bool
  others y = cond (L.own x y) false true

  turned_off : (b : Bool) → b ≡ true → cond b false true ≡ false
  turned_off true e = refl
  turned_off false e = absurd (true≢false (sym e))

  either_way : (y : Identifier) (b : Bool) → L.own x y ≡ b → (L.own x y ≡ true) ⊎ ((others y ≡ true) ⊎ IsSigned y ds)
  either_way y true e = inl e
  either_way y false e = inr (inl (ap (λ z. cond z false true) e))

  all_ready : (D : Bindings) → IsReady ds (names ds) others (L.own x) D
  all_ready no_binding = tt
  all_ready (unsigned z cs D) = ((λ o y m i. either_way y (L.own x y) refl), all_ready D)
  all_ready (signed z s cs D) = all_ready D
  all_ready (matched k p cs D) = ((λ z i o y m j. either_way y (L.own x y) refl), all_ready D)

  same_bool : (a b : Bool) → (a ≡ true → b ≡ true) → (b ≡ true → a ≡ true) → a ≡ b
  same_bool true b f g = sym (f refl)
  same_bool false true f g = g refl
  same_bool false false f g = refl

  pub last_next : IsNext ds L.own others (L.own x)
  last_next = record {
    whole = λ v w o.
        let h = (L.units.1 v w).0 o in
        same_bool (L.own x v) (L.own x w)
        (λ e. let r = (L.units.1 x v).0 e in (L.units.1 x w).1 (r.0, h.1, SameUnit-trans ds r.2 h.2))
        (λ e. let r = (L.units.1 x w).0 e in (L.units.1 x v).1 (r.0, h.0, SameUnit-trans ds r.2 (SameUnit-sym ds h.2)));
    unit = λ v w a b. let r = (L.units.1 x v).0 a in let s = (L.units.1 x w).0 b in (L.units.1 v w).1 (r.1, s.1, SameUnit-trans ds (SameUnit-sym ds r.2) s.2);
    open_yet = λ v e. turned_off (L.own x v) e;
    ready = all_ready ds;
  }

-- Groups

one_mapped : {X Y : Type 0} (f : X → Y) (x : X) (xs : List X) → IsOneOf x xs → IsOneOf (f x) (map f xs)
one_mapped f x [] o = o
one_mapped f x (y ∷ ys) (inl e) = inl (ap f e)
one_mapped f x (y ∷ ys) (inr o) = inr (one_mapped f x ys o)

module _ (k : Known) (decls : List Declaration) (nodes : List (Option Variable)) (rows : List (List ℕ)) (found : IsListFound k decls nodes rows) (gs : List (List ℕ)) (groups : AreNumberedGroups (list_of k decls) (node_name k (declarations decls)) (length nodes) gs)
    (base es : List Assumed) (closed : AreAssumed 0 base) (table : List Bool) (u : UnitsJudged k decls gs (length nodes) (length gs) base es table) where
  all_finished : (x : Identifier) → IsUnsigned x (list_of k decls) → u.finished x ≡ true
  all_finished = at u.tests (subst (λ z. AreTestsOf u.tests (map (map (node_name k (declarations decls))) z)) (past_end gs (length gs) (omega arith)) u.tests_are) u.order
    where
      at : (tests : List (Identifier → Bool)) → AreTestsOf tests [] → IsOrder (list_of k decls) u.layout.own u.finished tests → (x : Identifier) → IsUnsigned x (list_of k decls) → u.finished x ≡ true
      at [] f o = o
      at (t ∷ ts) f o = absurd f

  module _ (group : List ℕ) (one : IsOneOf group gs) (numbers : (j : ℕ) → IsOneOf j group → j < length nodes) (j : ℕ) (member : IsOneOf j group) where
    abbrev x : Identifier
    x = node_name k (declarations decls) j

    named : IsOneOf (node_name k (declarations decls) j) (names_at k (declarations decls) group)
    named = in_names k (declarations decls) group j member

    ux : IsUnsigned (node_name k (declarations decls) j) (list_of k decls)
    ux = groups.unsigned_names j (numbers j member)

    pub tests : (y : Identifier) → Decides (u.layout.own (node_name k (declarations decls) j) y) (IsOneOf y (names_at k (declarations decls) group))
    tests y =
        let w = (numbered (list_of k decls) (node_name k (declarations decls)) (length nodes) gs groups).whole (map (node_name k (declarations decls)) group) (one_mapped (map (node_name k (declarations decls))) group gs one) (node_name k (declarations decls) j) y named in
        ((λ e. w.1 (((u.layout.units.1 (node_name k (declarations decls) j) y).0 e).1, ((u.layout.units.1 (node_name k (declarations decls) j) y).0 e).2)), (λ o. (u.layout.units.1 (node_name k (declarations decls) j) y).1 (ux, (w.0 o).0, (w.0 o).1)))

    down : (v y : Identifier) → u.status v ≡ true → BindingMentions v y (list_of k decls) → IsUnsigned y (list_of k decls) → u.status y ≡ true
    down v y s m i = typed_down (list_of k decls) (assumptions base) (closed_assumptions base closed) u.layout u.finished u.status u.schemes u.units all_finished s (directly (m, i))

    -- the nodes of a group are alike
    pub alike : (i : ℕ) → IsOneOf i group → get_or table i false ≡ get_or table j false
    alike i o = u.table i (numbers i o) ∙ (same (u.status (node_name k (declarations decls) i)) (u.status (node_name k (declarations decls) j)) (λ e. along (SameUnit-sym (list_of k decls) unit) e) (λ e. along unit e) ∙ sym (u.table j (numbers j member)))
      where
        unit : SameUnit (list_of k decls) (node_name k (declarations decls) j) (node_name k (declarations decls) i)
        unit = own_same (list_of k decls) u.layout.own u.layout.units (node_name k (declarations decls) j) (node_name k (declarations decls) i) ((tests (node_name k (declarations decls) i)).1 (in_names k (declarations decls) group i o))

        along : {v w : Identifier} → SameUnit (list_of k decls) v w → u.status v ≡ true → u.status w ≡ true
        along (inl e) s = subst (λ z. u.status z ≡ true) e s
        along (inr p) s = typed_down (list_of k decls) (assumptions base) (closed_assumptions base closed) u.layout u.finished u.status u.schemes u.units all_finished s p.0

        same : (a b : Bool) → (a ≡ true → b ≡ true) → (b ≡ true → a ≡ true) → a ≡ b
        same true b f g = sym (f refl)
        same false true f g = g refl
        same false false f g = refl

    -- a group is a fault as was told
    pub group_fault : (b : Bool) → GroupTold decls nodes rows group table b → Decides b (IsTypeFault (assumptions base) (list_of k decls) (node_name k (declarations decls) j))
    group_fault b (has_types i o t e) = (
      (λ f. absurd (opposite f e)),
      (λ p. absurd (typed_no_fault (list_of k decls) (assumptions base) (closed_assumptions base closed) u.layout u.finished u.status u.schemes u.units all_finished (node_name k (declarations decls) j) ux (sym (u.table j (numbers j member)) ∙ (sym (alike i o) ∙ t)) p)),
    )
    group_fault true (has_none i o t marked is_marked ms are_members told) = (
      (λ f. free_fault (list_of k decls) (assumptions base) (closed_assumptions base closed) u.layout u.finished u.status u.schemes u.units all_finished (node_name k (declarations decls) j) ux
          (free k decls nodes rows found u.layout (others (list_of k decls) u.layout (node_name k (declarations decls) j)) u.status (u.layout.own (node_name k (declarations decls) j)) (last_next (list_of k decls) u.layout (node_name k (declarations decls) j)) group tests numbers table marked is_marked u.table ms are_members down told)
          (sym (u.table j (numbers j member)) ∙ (sym (alike i o) ∙ t))),
      (λ p. refl),
    )
    group_fault false (has_none i o t marked is_marked ms are_members told) = (
      (λ f. absurd (true≢false (sym f))),
      (λ p. absurd (blocked_no_fault (list_of k decls) (assumptions base) (closed_assumptions base closed) u.layout u.finished u.status u.schemes u.units all_finished (node_name k (declarations decls) j) ux
          (blocked k decls nodes rows found u.layout (others (list_of k decls) u.layout (node_name k (declarations decls) j)) u.status (u.layout.own (node_name k (declarations decls) j)) (last_next (list_of k decls) u.layout (node_name k (declarations decls) j)) group tests numbers table marked is_marked u.table ms are_members down told) p)),
    )

-- The groups of a list are plain

some_group : (ds : Bindings) (name : ℕ → Identifier) (n : ℕ) (gs : List (List ℕ)) (before : List ℕ) → NumberedInOrder ds name n before gs → (g : List ℕ) → IsOneOf g gs → (b : List ℕ) × NumberedGroup ds name n b g
some_group ds name n [] before o g p = absurd p
some_group ds name n (h ∷ hs) before o g (inl e) = (before, subst (NumberedGroup ds name n before) (sym e) o.0)
some_group ds name n (h ∷ hs) before o g (inr p) = some_group ds name n hs (before ++ h) o.1 g p

not_empty : (xs : List ℕ) (x : ℕ) → IsOneOf x xs → 0 < length xs
not_empty [] x o = absurd o
not_empty (y ∷ xs) x o = omega arith

pub plain_groups : (k : Known) (decls : List Declaration) (nodes : List (Option Variable)) (rows : List (List ℕ)) → IsListFound k decls nodes rows → (gs : List (List ℕ)) → AreNumberedGroups (list_of k decls) (node_name k (declarations decls)) (length nodes) gs → (base es : List Assumed) → AreAssumed 0 base → (table : List Bool) → UnitsJudged k decls gs (length nodes) (length gs) base es table →
    ArePlainGroups gs (length nodes) table
plain_groups k decls nodes rows found gs groups base es closed table u =
    let within : (g : List ℕ) → IsOneOf g gs → (j : ℕ) → IsOneOf j g → j < length nodes = λ g o j p. (((some_group (list_of k decls) (node_name k (declarations decls)) (length nodes) gs [] groups.in_order g o).1.members j).0 p).0 in
    record {
      below = within;
      some = λ g o. let h = (some_group (list_of k decls) (node_name k (declarations decls)) (length nodes) gs [] groups.in_order g o).1 in not_empty g h.first ((h.members h.first).1 (h.number, inl refl));
      alike = λ g o i j p q. alike k decls nodes rows found gs groups base es closed table u g o (within g o) j q i p;
    }

-- where each group was told, the faults of the list without signatures are those of the groups that are told

pub fault_told : (k : Known) (decls : List Declaration) (nodes : List (Option Variable)) (rows : List (List ℕ)) → IsListFound k decls nodes rows → (gs : List (List ℕ)) → AreNumberedGroups (list_of k decls) (node_name k (declarations decls)) (length nodes) gs → (base es : List Assumed) → AreAssumed 0 base → (table : List Bool) → UnitsJudged k decls gs (length nodes) (length gs) base es table →
    (hs : List (List ℕ)) (flags : List Bool) → ((g : List ℕ) → IsOneOf g hs → IsOneOf g gs) → AreGroupsTold decls nodes rows hs table flags → (i j : ℕ) → i < length hs → IsOneOf j (get_or hs i []) → Decides (get_or flags i false) (IsTypeFault (assumptions base) (list_of k decls) (node_name k (declarations decls) j))
fault_told k decls nodes rows found gs groups base es closed table u [] flags sub told i j l o = absurd (omega (arith, l))
fault_told k decls nodes rows found gs groups base es closed table u (h ∷ hs) [] sub told i j l o = absurd told
fault_told k decls nodes rows found gs groups base es closed table u (h ∷ hs) (b ∷ flags) sub told zero j l o =
    group_fault k decls nodes rows found gs groups base es closed table u h (sub h (inl refl)) (λ i p. (((some_group (list_of k decls) (node_name k (declarations decls)) (length nodes) gs [] groups.in_order h (sub h (inl refl))).1.members i).0 p).0) j o b told.0
fault_told k decls nodes rows found gs groups base es closed table u (h ∷ hs) (b ∷ flags) sub told (suc i) j l o =
    fault_told k decls nodes rows found gs groups base es closed table u hs flags (λ g p. sub g (inr p)) told.1 i j (omega (arith, l)) o
