-- The order of the nodes that the groups of a graph give: a node of the concatenation stands behind the groups before its own.
use Rattle.std.proofs.Common.{◌≡◌, ◌≢◌, append-nil, Vec, ℕ, zero, suc, ◌+◌, ◌-◌, ◌<◌, ◌≤◌, List, [], ◌∷◌, ◌++◌, length, length-append, take, get_or, ◌⊎◌, inl, inr, refl, sym, ap, ◌∙◌, subst, Contains, arith, add-one}
use Rattle.std.specs.List.{AllPairs, concat}
use Rattle.std.specs.List.Sorted.{IsStrictlyIncreasing}
use Rattle.std.proofs.lemmas.Bool.{cases_lt}
use Rattle.std.proofs.lemmas.List.{take_all, take_more, get_or_append_left, get_or-append_right, map-append}
use Rattle.std.proofs.lemmas.List.Kept.{AllPairs-from_increasing}
use Rattle.std.proofs.lemmas.List.Folds.{concat-append}
use Rattle.std.proofs.lemmas.List.Elements.{Contains-append_left, Contains-append_right, Contains-append_cases, Contains-get_or}
use Rattle.hm_graph_components.specs.Digraph.{Graph, Reaches, IsTogether, AreGroups, lists}
use Rattle.hm_graph_components.specs.NodeOrders.{IsOrder}
use Rattle.hm_graph_components.proofs.Checked.{from_list, in_list}
use Rattle.hm_graph_components.proofs.Closures.{Closure-trans}
use Rattle.hm_graph_components.proofs.Members.{concat_push}
use Rattle.std.specs.declared.alloc.Global.{Global}

none_in : (x : ℕ) → ¬ (Contains [] x)
none_in x h = absurd (omega (arith, h.1))

along : (graph : Graph) (x y z : ℕ) → IsTogether graph x y → Reaches graph y z → Reaches graph x z
along graph x y z (inl e) r = subst (λ w. Reaches graph w z) (sym e) r
along graph x y z (inr p) r = Closure-trans p.0 r

back : (graph : Graph) (x y z : ℕ) → IsTogether graph x y → Reaches graph z x → Reaches graph z y
back graph x y z (inl e) r = subst (λ w. Reaches graph z w) e r
back graph x y z (inr p) r = Closure-trans r p.0

record IsAt (groups : List (List ℕ)) (i : ℕ) : Type 0 where
  group : ℕ
  is_group : group < length groups
  stands : Contains (get_or groups group []) (get_or (concat groups) i 0)
  before : (y : ℕ) → Contains (concat (take group groups)) y → Contains (take i (concat groups)) y

located : (groups : List (List ℕ)) (i : ℕ) → i < length (concat groups) → IsAt groups i
located [] i h = absurd (omega arith)
located (g ∷ gs) i h = elim (ℕ_below i (length g)) [
  | inl l ↦ record {
    group = 0;
    is_group = omega arith;
    stands = subst (λ z. Contains g z) (sym (get_or_append_left g (concat gs) 0 i l)) (Contains-get_or g i 0 l);
    before = λ y c. absurd (none_in y c);
  }
  | inr r ↦
      let n : length (g ++ concat gs) ≡ length g + length (concat gs) = length-append g (concat gs) in
      let a = located gs (i - length g) (omega (arith, h, n, r)) in
      record {
        group = suc a.group;
        is_group = omega (arith, a.is_group);
        stands = subst (λ z. Contains (get_or gs a.group []) z) (sym (get_or-append_right g (concat gs) (length g) i 0 refl r)) a.stands;
        before = λ y c. subst (λ z. Contains z y) (sym (take_behind g (concat gs) i r)) (elim (Contains-append_cases g (concat (take a.group gs)) y c) [
          | inl b ↦ Contains-append_left g (take (i - length g) (concat gs)) y b
          | inr b ↦ Contains-append_right g (take (i - length g) (concat gs)) y (a.before y b)
        ]);
      }
]
  where
    ℕ_below : (a b : ℕ) → (a < b) ⊎ (b ≤ a)
    ℕ_below zero zero = inr (omega arith)
    ℕ_below zero (suc b) = inl (omega arith)
    ℕ_below (suc a) zero = inr (omega arith)
    ℕ_below (suc a) (suc b) = elim (ℕ_below a b) [ inl h ↦ inl (omega (arith, h)) | inr h ↦ inr (omega (arith, h)) ]

    take_behind : (xs ys : List ℕ) (i : ℕ) → length xs ≤ i → take i (xs ++ ys) ≡ xs ++ take (i - length xs) ys
    take_behind [] ys i h = let e : i ≡ i - 0 = omega arith in ap (λ n. take n ys) e
    take_behind (x ∷ xs) ys zero h = absurd (omega (arith, h))
    take_behind (x ∷ xs) ys (suc i) h = let e : i - length xs ≡ suc i - suc (length xs) = omega arith in ap (λ z. x ∷ z) (take_behind xs ys i (omega (arith, h)) ∙ ap (λ n. xs ++ take n ys) e)

-- No node stands twice: groups ascend, and a node of two groups would have the least node of the later one stand before it

apart_more : (xs ys : List ℕ) → AllPairs (λ x y. x ≢ y) xs → IsStrictlyIncreasing ys → ((x : ℕ) → Contains xs x → ¬ Contains ys x) → AllPairs (λ x y. x ≢ y) (xs ++ ys)
apart_more xs ys apart up cross i j d less below e =
    let n : length (xs ++ ys) ≡ length xs + length ys = length-append xs ys in
    elim (cases_lt j (length xs)) [
      | inl inside ↦
          let i_inside : i < length xs = omega (arith, less, inside) in
          apart i j d less inside (sym (get_or_append_left xs ys d i i_inside) ∙ (e ∙ get_or_append_left xs ys d j inside))
      | inr past ↦
          let j_is : get_or (xs ++ ys) j d ≡ get_or ys (j - length xs) d = get_or-append_right xs ys (length xs) j d refl past in
          let j_below : j - length xs < length ys = omega (arith, n, below, past) in
          elim (cases_lt i (length xs)) [
            | inl inside ↦
                let i_is : get_or (xs ++ ys) i d ≡ get_or xs i d = get_or_append_left xs ys d i inside in
                let same : get_or ys (j - length xs) d ≡ get_or xs i d = sym j_is ∙ (sym e ∙ i_is) in
                cross (get_or xs i d) (Contains-get_or xs i d inside) (subst (λ z. Contains ys z) same (Contains-get_or ys (j - length xs) d j_below))
            | inr i_past ↦
                let i_is : get_or (xs ++ ys) i d ≡ get_or ys (i - length xs) d = get_or-append_right xs ys (length xs) i d refl i_past in
                let rises : get_or ys (i - length xs) d < get_or ys (j - length xs) d = AllPairs-from_increasing ys up (i - length xs) (j - length xs) d (omega (arith, less, past, i_past)) j_below in
                let same : get_or ys (i - length xs) d ≡ get_or ys (j - length xs) d = sym i_is ∙ (e ∙ j_is) in
                absurd (omega (arith, rises, same))
          ]
    ]

module _ (graph : Graph) (groups : List (List ℕ)) (are : AreGroups graph groups) where
  together : (x y z : ℕ) → IsTogether graph x z → IsTogether graph y z → IsTogether graph x y
  together x y z a (inl e) = subst (λ w. IsTogether graph x w) (sym e) a
  together x y z (inl e) (inr q) = inr (subst (λ w. Reaches graph w y) (sym e) q.1, subst (λ w. Reaches graph y w) (sym e) q.0)
  together x y z (inr p) (inr q) = inr (Closure-trans p.0 q.1, Closure-trans q.0 p.1)

  new_members : (n : ℕ) → n < length groups → (x : ℕ) → Contains (concat (take n groups)) x → ¬ Contains (get_or groups n []) x
  new_members n below x before here =
      let (i, less, there) = in_list groups n x (omega (arith, below)) before in
      let next = are.each n below in
      let earlier = are.each i (omega (arith, less, below)) in
      let at_least : Contains (get_or groups i []) next.least = (earlier.group_of.members next.least).1 (
        next.may_come.node,
        together earlier.least next.least x ((earlier.group_of.members x).0 there).1 ((next.group_of.members x).0 here).1,
      ) in
      next.may_come.absent (from_list groups n i next.least (omega (arith, below)) less at_least)

  apart_within : (n : ℕ) → n ≤ length groups → AllPairs (λ x y. x ≢ y) (concat (take n groups))
  apart_within zero below = λ i j d less small. absurd (omega (arith, small))
  apart_within (suc n) below =
      let inside : n < length groups = omega (arith, below) in
      rw (← add-one, take_more groups n [] inside, concat_push)
      (apart_more (concat (take n groups)) (get_or groups n []) (apart_within n (omega (arith, below))) (are.each n inside).group_of.ascending (new_members n inside))

  all_apart : AllPairs (λ x y. x ≢ y) (concat groups)
  all_apart = subst (λ l. AllPairs (λ x y. x ≢ y) (concat l)) (take_all (length groups) groups (omega arith)) (apart_within (length groups) (omega arith))

pub in_order : (graph : Graph) (groups : List (List ℕ)) → AreGroups graph groups → IsOrder graph (concat groups)
in_order graph groups are = record {
  all = are.all;
  nodes = λ i inside. let a = located groups i inside in (((are.each a.group a.is_group).group_of.members (get_or (concat groups) i 0)).0 a.stands).0;
  once = all_apart graph groups are;
  after = λ i y inside reached.
      let a = located groups i inside in
      let next = are.each a.group a.is_group in
      let t = ((next.group_of.members (get_or (concat groups) i 0)).0 a.stands).1 in
      elim (next.may_come.after y (along graph next.least (get_or (concat groups) i 0) y t reached)) [
        | inl b ↦ inl (a.before y b)
        | inr r ↦ inr (back graph next.least (get_or (concat groups) i 0) y t r)
      ];
}

-- Vectors of groups

lists_more : (rows : List (Vec ℕ Global)) (i : ℕ) (row : Vec ℕ Global) → i < length rows → row ≡ get_or rows i row → lists (take (i + 1) rows) ≡ lists (take i rows) ++ row.items ∷ []
lists_more rows i row h e = ap lists (take_more rows i row h ∙ ap (λ z. take i rows ++ z ∷ []) (sym e)) ∙ map-append (λ (r : Vec ℕ Global). r.items) (take i rows) (row ∷ [])

pub joined_more : (rows : List (Vec ℕ Global)) (i : ℕ) (row : Vec ℕ Global) (old items new : List ℕ) → i < length rows → row ≡ get_or rows i row → items ≡ row.items → new ≡ old ++ items → old ≡ concat (lists (take i rows))
    → new ≡ concat (lists (take (i + 1) rows))
joined_more rows i row old items new h e is added known =
    added ∙ (ap (λ z. z ++ items) known ∙ (ap (λ z. concat (lists (take i rows)) ++ z) (is ∙ sym (append-nil row.items)) ∙ (sym (concat-append (lists (take i rows)) (row.items ∷ [])) ∙ ap concat (sym (lists_more rows i row h e)))))
