-- a node is in a cycle where another node shares its group, or where it has an edge to itself
use Rattle.std.proofs.Common.{◌≡◌, ◌≢◌, ℕ, ◌+◌, ◌<◌, List, [], length, get_or, take, Contains, ◌⊎◌, inl, inr, refl, sym, subst, ◌∙◌, arith}
use Rattle.std.proofs.lemmas.Bool.{cases_lt, cases_eq}
use Rattle.std.proofs.lemmas.List.{take_all, get_or_default}
use Rattle.std.specs.List.{concat}
use Rattle.std.specs.List.Sorted.{IsStrictlyIncreasing}
use Rattle.hm_graph_components.specs.Closure.{one, more}
use Rattle.hm_graph_components.specs.Digraph.{Graph, Edge, Reaches, IsTogether, IsGroupOf, AreGroups}
use Rattle.hm_graph_components.specs.Marks.{IsShared}
use Rattle.hm_graph_components.proofs.Closures.{Closure-trans}
use Rattle.hm_graph_components.proofs.Checked.{in_list}
use Rattle.hm_graph_components.proofs.Graphs.{Reaches-within}

-- x stands in one of the first n lists, and that has two members or more
abbrev pub SharesBelow : List (List ℕ) → ℕ → ℕ → Type 0
SharesBelow groups n x = (i : ℕ) × (i < n) × (1 < length (get_or groups i [])) × Contains (get_or groups i []) x

-- ---- a list with two members or more

pub other_member : (xs : List ℕ) (x : ℕ) → IsStrictlyIncreasing xs → 1 < length xs → (y : ℕ) × (x ≢ y) × Contains xs y
other_member xs x rising long =
    let less : get_or xs 0 0 < get_or xs 1 0 = rising 0 long in
    elim (cases_eq x (get_or xs 0 0)) [
      | inl first ↦ (get_or xs 1 0, (λ same. omega (arith, first, same)), (1, long, get_or_default xs 1 (get_or xs 1 0) 0 long))
      | inr apart ↦ (get_or xs 0 0, apart, (0, omega arith, get_or_default xs 0 (get_or xs 0 0) 0 (omega arith)))
    ]

pub two_members : (xs : List ℕ) (x y : ℕ) → Contains xs x → Contains xs y → x ≢ y → 1 < length xs
two_members xs x y (p, p_in, p_is) (q, q_in, q_is) apart =
    elim (cases_lt 1 (length xs)) [
      | inl long ↦ long
      | inr short ↦
          let p_first : p ≡ 0 = omega arith in
          let q_first : q ≡ 0 = omega arith in
          let at_x : get_or xs 0 x ≡ x = rw p_first at p_is in
          let at_y : get_or xs 0 y ≡ y = rw q_first at q_is in
          let inside : 0 < length xs = omega arith in
          absurd (apart (sym at_x ∙ (get_or_default xs 0 x y inside ∙ at_y)))
    ]

-- ---- nodes of one group

together_pair : (graph : Graph) (l x y : ℕ) → IsTogether graph l x → IsTogether graph l y → x ≢ y → Reaches graph x y × Reaches graph y x
together_pair graph l x y a b apart =
    elim a [
      | inl lx ↦ elim b [
        | inl ly ↦ absurd (apart (sym lx ∙ ly))
        | inr both ↦ (subst (λ z. Reaches graph z y) lx both.0, subst (λ z. Reaches graph y z) lx both.1)
      ]
      | inr there ↦ elim b [
        | inl ly ↦ (subst (λ z. Reaches graph x z) ly there.1, subst (λ z. Reaches graph z x) ly there.0)
        | inr both ↦ (Closure-trans there.1 both.0, Closure-trans both.1 there.0)
      ]
    ]

together_other : (graph : Graph) (l x y : ℕ) → IsTogether graph l x → Reaches graph x y → Reaches graph y x → IsTogether graph l y
together_other graph l x y a xy yx =
    elim a [
      | inl lx ↦ inr (subst (λ z. Reaches graph z y) (sym lx) xy, subst (λ z. Reaches graph y z) (sym lx) yx)
      | inr there ↦ inr (Closure-trans there.0 xy, Closure-trans yx there.1)
    ]

pub shared_of : (graph : Graph) (groups : List (List ℕ)) (x : ℕ) → AreGroups graph groups → SharesBelow groups (length groups) x → IsShared graph x
shared_of graph groups x are (i, below, long, there) =
    let next = are.each i below in
    let group : IsGroupOf graph next.least (get_or groups i []) = next.group_of in
    let (y, apart, y_there) = other_member (get_or groups i []) x group.ascending long in
    let both = together_pair graph next.least x y ((group.members x).0 there).1 ((group.members y).0 y_there).1 apart in
    (y, apart, both.0, both.1)

pub of_shared : (graph : Graph) (groups : List (List ℕ)) (x : ℕ) → AreGroups graph groups → IsShared graph x → SharesBelow groups (length groups) x
of_shared graph groups x are (y, apart, xy, yx) =
    let x_below : x < length graph = Reaches-within graph x y xy in
    let y_below : y < length graph = Reaches-within graph y x yx in
    let placed : Contains (concat (take (length groups) groups)) x = rw (take_all (length groups) groups (omega arith)) (are.all x x_below) in
    let (i, below, there) = in_list groups (length groups) x (omega arith) placed in
    let next = are.each i below in
    let group : IsGroupOf graph next.least (get_or groups i []) = next.group_of in
    let y_there : Contains (get_or groups i []) y = (group.members y).1 (y_below, together_other graph next.least x y ((group.members x).0 there).1 xy yx) in
    (i, below, two_members (get_or groups i []) x y there y_there apart, there)

-- ---- cycles

pub cycle_of : (graph : Graph) (x : ℕ) → IsShared graph x ⊎ Edge graph x x → Reaches graph x x
cycle_of graph x either = elim either [ inl (y, apart, xy, yx) ↦ Closure-trans xy yx | inr edge ↦ one edge ]

pub of_cycle : (graph : Graph) (x : ℕ) → Reaches graph x x → IsShared graph x ⊎ Edge graph x x
of_cycle graph x reached = last x reached refl
  where
    last : (z : ℕ) → Reaches graph x z → z ≡ x → IsShared graph x ⊎ Edge graph x x
    last z (one edge) is = inr (rw is at edge)
    last z (more {b = y} path edge) is = elim (cases_eq x y) [
      | inl same ↦ inr (subst (λ w. Edge graph w x) (sym same) (rw is at edge))
      | inr apart ↦ inl (y, apart, path, one (rw is at edge))
    ]

-- ---- what the loop has marked

pub shares_old : (groups : List (List ℕ)) (n x : ℕ) → SharesBelow groups n x → SharesBelow groups (n + 1) x
shares_old groups n x (i, below, long, there) = (i, omega arith, long, there)

pub shares_new : (groups : List (List ℕ)) (n x : ℕ) → 1 < length (get_or groups n []) → Contains (get_or groups n []) x → SharesBelow groups (n + 1) x
shares_new groups n x long there = (n, omega arith, long, there)

pub shares_cases : (groups : List (List ℕ)) (n x : ℕ) → SharesBelow groups (n + 1) x → SharesBelow groups n x ⊎ ((1 < length (get_or groups n [])) × Contains (get_or groups n []) x)
shares_cases groups n x (i, below, long, there) =
    elim (cases_lt i n) [
      | inl less ↦ inl (i, less, long, there)
      | inr past ↦ let is : i ≡ n = omega arith in inr (rw is at long, rw is at there)
    ]
