-- what passes the tests are the groups in their order
use Rattle.std.proofs.Common.{◌≡◌, ℕ, zero, suc, ◌<◌, ◌≤◌, List, [], length, get_or, take, Contains, ◌⊎◌, inl, inr, refl, sym, ◌∙◌, arith, add-one}
use Rattle.std.proofs.lemmas.Bool.{cases_lt, cases_order}
use Rattle.std.proofs.lemmas.List.{take_more, take_all, get_or_default}
use Rattle.std.proofs.lemmas.List.Elements.{Contains-append_left, Contains-append_right, Contains-append_cases, All-contains}
use Rattle.std.proofs.lemmas.List.Kept.{AllPairs-from_increasing}
use Rattle.std.specs.List.{concat}
use Rattle.hm_graph_components.specs.Closure.{one, more}
use Rattle.hm_graph_components.specs.Digraph.{Graph, Edge, Reaches, IsGroupOf, MayCome, AreGroups}
use Rattle.hm_graph_components.specs.Marks.{IsClosed}
use Rattle.hm_graph_components.specs.Checks.{number_of, least_of, IsCovered, AreMembers, AllAscending, AreLeasts, NoEdgeAhead, IsReachedWithin, AreEarliestPlaces, IsLeastFirst}
use Rattle.hm_graph_components.proofs.Closures.{Closure-trans}
use Rattle.hm_graph_components.proofs.Members.{Contains-nil, concat_push}
use Rattle.hm_graph_components.proofs.Graphs.{Reaches-within}

-- what stands in the first n lists stands in one of them
pub in_list : (groups : List (List ℕ)) (n : ℕ) (x : ℕ) → n ≤ length groups → Contains (concat (take n groups)) x → (i : ℕ) × (i < n) × Contains (get_or groups i []) x
in_list groups zero x le there = absurd (Contains-nil x there)
in_list groups (suc n) x le there =
    let below : n < length groups = omega arith in
    elim (Contains-append_cases (concat (take n groups)) (get_or groups n []) x (rw (← add-one, take_more groups n [] below, concat_push) at there)) [
      | inl before ↦ let (i, less, is) = in_list groups n x (omega arith) before in (i, omega arith, is)
      | inr last ↦ (n, omega arith, last)
    ]

pub from_list : (groups : List (List ℕ)) (n i : ℕ) (x : ℕ) → n ≤ length groups → i < n → Contains (get_or groups i []) x → Contains (concat (take n groups)) x
from_list groups zero i x le less there = absurd (omega arith)
from_list groups (suc n) i x le less there =
    let below : n < length groups = omega arith in
    rw (← add-one, take_more groups n [] below, concat_push)
    (elim (cases_order i n) [
      | inl same ↦ Contains-append_right (concat (take n groups)) (get_or groups n []) x (rw same at there)
      | inr (inl before) ↦ Contains-append_left (concat (take n groups)) (get_or groups n []) x (from_list groups n i x (omega arith) before there)
      | inr (inr past) ↦ absurd (omega arith)
    ])

-- what the tests have found
pub record IsChecked (graph : Graph) (groups : List (List ℕ)) (numbers leasts earliest : List ℕ) : Type 0 where
  pub closed : IsClosed graph
  pub covered : IsCovered groups (length graph) numbers
  pub members : AreMembers groups numbers
  pub up : AllAscending groups
  pub are_leasts : AreLeasts groups leasts
  pub down : NoEdgeAhead graph numbers
  pub from_least : (x : ℕ) → x < length graph → IsReachedWithin graph numbers leasts x
  pub to_least : (x : ℕ) → x < length graph → (least_of leasts (number_of numbers x) ≡ x) ⊎ Reaches graph x (least_of leasts (number_of numbers x))
  pub are_heights : AreEarliestPlaces graph numbers earliest (length leasts)
  pub least_first : IsLeastFirst leasts earliest

module _ (graph : Graph) (groups : List (List ℕ)) (numbers leasts earliest : List ℕ) (c : IsChecked graph groups numbers leasts earliest) where
  member : (i x : ℕ) → i < length groups → Contains (get_or groups i []) x → (x < length graph) × (number_of numbers x ≡ i)
  member i x below there =
      let both = All-contains (λ x. (x < length numbers) × (number_of numbers x ≡ i)) (get_or groups i []) x (c.members i below) there in
      (omega (arith, both.0, c.covered.len), both.1)

  least_in : (i : ℕ) → i < length groups → Contains (get_or groups i []) (least_of leasts i)
  least_in i below =
      let f = c.are_leasts.first i below in
      rw f.1 (0, f.0, get_or_default (get_or groups i []) 0 (get_or (get_or groups i []) 0 0) 0 f.0)

  -- the least member is the least
  least_is : (i x : ℕ) → i < length groups → Contains (get_or groups i []) x → least_of leasts i ≤ x
  least_is i x below (k, k_below, k_is) =
      let f = c.are_leasts.first i below in
      let at_k : get_or (get_or groups i []) k 0 ≡ x = get_or_default (get_or groups i []) k 0 x k_below ∙ k_is in
      elim (cases_lt 0 k) [
        | inl later ↦ omega (arith, f.1, at_k, AllPairs-from_increasing (get_or groups i []) (c.up i below) 0 k 0 later k_below)
        | inr first ↦
            let is_zero : k ≡ 0 = omega arith in
            let at_zero : get_or (get_or groups i []) 0 0 ≡ x = rw is_zero at at_k in
            omega (arith, f.1)
      ]

  falls : {x y : ℕ} → Reaches graph x y → number_of numbers y ≤ number_of numbers x
  falls {x} (one {b = y} edge) = c.down x y (Reaches-within graph x y (one edge)) edge
  falls {x} (more {b = z} {c = y} p edge) =
      let step : number_of numbers y ≤ number_of numbers z = c.down z y (Reaches-within graph z y (one edge)) edge in
      omega (arith, falls p)

  -- what has the same number is together
  together : (x y : ℕ) → x < length graph → y < length graph → number_of numbers x ≡ number_of numbers y → (x ≡ y) ⊎ Reaches graph x y
  together x y x_below y_below same =
      elim (c.to_least x x_below) [
        | inl x_least ↦ elim (c.from_least y y_below) [
          | inl y_least ↦ inl (sym x_least ∙ (rw same refl ∙ y_least))
          | inr to_y ↦ inr (rw (← same, x_least) at to_y)
        ]
        | inr from_x ↦ elim (c.from_least y y_below) [
          | inl y_least ↦ inr (rw (same, y_least) at from_x)
          | inr to_y ↦ inr (Closure-trans (rw same at from_x) to_y)
        ]
      ]

  group_is : (i : ℕ) → i < length groups → IsGroupOf graph (least_of leasts i) (get_or groups i [])
  group_is i below =
      let l = member i (least_of leasts i) below (least_in i below) in
      record {
        members = λ y. (
          (λ there.
              let m = member i y below there in (
                m.0,
                elim (together (least_of leasts i) y l.0 m.0 (l.1 ∙ sym m.1)) [
                  | inl same ↦ inl same
                  | inr on ↦ elim (together y (least_of leasts i) m.0 l.0 (m.1 ∙ sym l.1)) [
                    | inl same ↦ inl (sym same)
                    | inr back ↦ inr (on, back)
                  ]
                ],
              )),
          (λ both. elim both.1 [
            | inl same ↦ rw (← same) (least_in i below)
            | inr reach ↦
                let is : number_of numbers y ≡ i = omega (arith, falls reach.0, falls reach.1, l.1) in
                rw is at (c.covered.stands y both.0)
          ]),
        );
        ascending = c.up i below;
      }

  target : {x y : ℕ} → Reaches graph x y → y < length graph
  target (one {b = y} edge) = c.closed _ y edge
  target (more {c = y} p edge) = c.closed _ y edge

  -- what has a smaller number stands before, and the other way round
  stands_before : (i x : ℕ) → i ≤ length groups → x < length graph → number_of numbers x < i → Contains (concat (take i groups)) x
  stands_before i x le below less = from_list groups i (number_of numbers x) x le less (c.covered.stands x below)

  before_less : (i x : ℕ) → i ≤ length groups → Contains (concat (take i groups)) x → number_of numbers x < i
  before_less i x le there =
      let (k, less, is) = in_list groups i x le there in
      omega (arith, (member k x (omega arith) is).1)

  may_come : (i : ℕ) → i < length groups → MayCome graph (concat (take i groups)) (least_of leasts i)
  may_come i below =
      let l = member i (least_of leasts i) below (least_in i below) in
      record {
        node = l.0;
        absent = λ there. omega (arith, before_less i (least_of leasts i) (omega arith) there, l.1);
        after = λ y reach.
            let y_below : y < length graph = target reach in
            let le : number_of numbers y ≤ i = omega (arith, falls reach, l.1) in
            elim (cases_lt (number_of numbers y) i) [
              | inl less ↦ inl (stands_before i y (omega arith) y_below less)
              | inr past ↦
                  let same : number_of numbers y ≡ number_of numbers (least_of leasts i) = omega (arith, l.1) in
                  inr (elim (together y (least_of leasts i) y_below l.0 same) [ inl equal ↦ rw equal (rw equal at reach) | inr back ↦ back ])
            ];
      }

  -- a node of list j, and what its list has an edge to
  onward : (x y z : ℕ) → x < length graph → y < length graph → number_of numbers y ≡ number_of numbers x → Edge graph x z → Reaches graph y z
  onward x y z x_below y_below same edge =
      elim (together y x y_below x_below same) [
        | inl equal ↦ rw equal (one edge)
        | inr reach ↦ more reach edge
      ]

  first : (i : ℕ) → i < length groups → (y : ℕ) → MayCome graph (concat (take i groups)) y → least_of leasts i ≤ y
  first i below y may =
      let j : ℕ = number_of numbers y in
      let j_below : number_of numbers y < length groups = c.covered.below y may.node in
      let j_least : least_of leasts (number_of numbers y) ≤ y = least_is (number_of numbers y) y j_below (c.covered.stands y may.node) in
      elim (cases_order i (number_of numbers y)) [
        | inl same ↦ rw same j_least
        | inr (inr past) ↦ absurd (may.absent (stands_before i y (omega arith) may.node past))
        | inr (inl less) ↦ elim (cases_lt i (get_or earliest (number_of numbers y) 0)) [
          | inr low ↦ omega (arith, j_least, c.least_first (number_of numbers y) i (omega (arith, c.are_leasts.len)) low less)
          | inl high ↦ elim (c.are_heights.edge (number_of numbers y) (omega (arith, c.are_leasts.len))) [
            | inl none ↦ absurd (omega arith)
            | inr (x, z, x_below, x_is, edge, smaller, reached) ↦
                let reach : Reaches graph y z = onward x y z x_below may.node (sym x_is) edge in
                let z_below : z < length graph = target reach in
                absurd (elim (may.after z reach) [
                  | inl there ↦ omega (arith, before_less i z (omega arith) there)
                  | inr back ↦ omega (arith, falls back)
                ])
          ]
        ]
      ]

  pub checked_groups : AreGroups graph groups
  checked_groups = record {
    each = λ i below. record {
      least = least_of leasts i;
      may_come = may_come i below;
      first = first i below;
      group_of = group_is i below;
    };
    all = λ x below. rw (take_all (length groups) groups (omega arith)) at (stands_before (length groups) x (omega arith) below (c.covered.below x below));
  }
