-- what the loops of the tests keep
use Rattle.std.proofs.Common.{◌≡◌, ℕ, ◌+◌, ◌<◌, ◌≤◌, Bool, true, false, List, [], ◌∷◌, ◌++◌, length, get_or, take, set, replicate, Contains, All, ◌⊎◌, inl, inr, refl, ◌∙◌, arith, Vec, Global, get_or-set_same, get_or-set_other, length-set, length-append}
use Rattle.std.specs.List.Sorted.{IsStrictlyIncreasing}
use Rattle.std.proofs.lemmas.Bool.{cases_lt, cases_eq, both_ways}
use Rattle.std.proofs.lemmas.List.{take_all, get_or_default, length-map, get_or-replicate, length-replicate, get_or-take, length-take, get_or_push, get_or_append_left}
use Rattle.std.proofs.lemmas.List.Elements.{Contains-append_left}
use Rattle.hm_graph_components.proofs.Closures.{Closure-trans}
use Rattle.hm_graph_components.proofs.Members.{Contains-push_cases, Contains-push_new, Contains-take_old, Contains-take_new}
use Rattle.hm_graph_components.proofs.Searches.{marked_set, work_left-mark, marked-within}
use Rattle.hm_graph_components.specs.Closure.{Closure, one, more}
use Rattle.hm_graph_components.specs.Digraph.{Graph, Edge, Reaches, lists}
use Rattle.hm_graph_components.specs.Marks.{IsMarked, IsClosed}
use Rattle.hm_graph_components.specs.Checks.{number_of, least_of, IsReachedWithin, MarksWithin, ArePlaces}

abbrev pub CoveredBelow : List (List ℕ) → List ℕ → ℕ → Type 0
CoveredBelow groups numbers n = (x : ℕ) → x < n → (number_of numbers x < length groups) × Contains (get_or groups (number_of numbers x) []) x

abbrev pub MembersBelow : List (List ℕ) → List ℕ → ℕ → Type 0
MembersBelow groups numbers n = (i : ℕ) → i < n → All (λ x. (x < length numbers) × (number_of numbers x ≡ i)) (get_or groups i [])

abbrev pub UpBelow : List (List ℕ) → ℕ → Type 0
UpBelow groups n = (i : ℕ) → i < n → IsStrictlyIncreasing (get_or groups i [])

abbrev pub RisesBelow : List ℕ → ℕ → Type 0
RisesBelow xs n = (k : ℕ) → k + 1 < n → get_or xs k 0 < get_or xs (k + 1) 0

pub record LeastsBelow (groups : List (List ℕ)) (leasts : List ℕ) (n : ℕ) : Type 0 where
  pub len : length leasts ≡ n
  pub first : (i : ℕ) → i < n → (0 < length (get_or groups i [])) × (least_of leasts i ≡ get_or (get_or groups i []) 0 0)

abbrev pub DownBelow : Graph → List ℕ → ℕ → Type 0
DownBelow graph numbers n = (x y : ℕ) → x < n → Edge graph x y → number_of numbers y ≤ number_of numbers x

-- what the search within the lists keeps
pub record IsReachedWithinSearch (graph : Graph) (numbers leasts : List ℕ) (marks : List Bool) (waiting : List ℕ) : Type 0 where
  pub nodes : length marks ≡ length graph
  pub reached : (x : ℕ) → IsMarked marks x → Reaches graph (least_of leasts (number_of numbers x)) x
  pub waits : (x : ℕ) → Contains waiting x → (x < length graph) × IsReachedWithin graph numbers leasts x

abbrev pub NearBelow : Graph → List ℕ → List ℕ → ℕ → Type 0
NearBelow graph numbers leasts n = (x : ℕ) → x < n → IsReachedWithin graph numbers leasts x

pub record HeightsBelow (graph : Graph) (numbers earliest : List ℕ) (count : ℕ) : Type 0 where
  pub len : length earliest ≡ count
  pub edge : (i : ℕ) → i < count → (get_or earliest i 0 ≡ 0) ⊎ ((x y : ℕ) × (x < length graph) × (number_of numbers x ≡ i) × Edge graph x y × (number_of numbers y < i) × (get_or earliest i 0 ≡ number_of numbers y + 1))

abbrev pub HasRaisedPlace : List ℕ → ℕ → List ℕ → ℕ → ℕ → Type 0
HasRaisedPlace row number numbers earliest raised = (raised ≡ earliest) ⊎ ((y : ℕ) × Contains row y × (number_of numbers y < number) × (raised ≡ number_of numbers y + 1))

pub record IsFirstBelow (leasts earliest places : List ℕ) (n : ℕ) : Type 0 where
  pub len : length places ≡ n
  pub are_places : ArePlaces leasts places
  pub low : (i : ℕ) → i < n → get_or places i 0 ≤ get_or earliest i 0

pub All-step : (P : ℕ → Type 0) (xs : List ℕ) (i : ℕ) → i < length xs → All P (take i xs) → P (get_or xs i 0) → All P (take (i + 1) xs)
All-step P xs i below so_far last k d k_below =
    let k_less : k < i + 1 = omega (arith, length-take (i + 1) xs) in
    rw (get_or-take (i + 1) xs k d k_less)
    (elim (cases_lt k i) [
      | inl less ↦
          let k_in : k < length (take i xs) = omega (arith, length-take i xs) in
          rw (get_or-take i xs k d less) at (so_far k d k_in)
      | inr past ↦
          let same : k ≡ i = omega arith in
          rw (same, get_or_default xs i d 0 below) last
    ])

pub All-end : (P : ℕ → Type 0) (xs : List ℕ) (i : ℕ) → length xs ≤ i → All P (take i xs) → All P xs
All-end P xs i past so_far = rw (take_all i xs past) at so_far

pub Below-more : (P : ℕ → Type 0) (n : ℕ) → ((i : ℕ) → i < n → P i) → P n → (i : ℕ) → i < n + 1 → P i
Below-more P n so_far last i below = elim (cases_lt i n) [ inl less ↦ so_far i less | inr past ↦ let same : i ≡ n = omega arith in rw same last ]

pub LeastsBelow-push : (groups : List (List ℕ)) (leasts : List ℕ) (n x : ℕ) → LeastsBelow groups leasts n → 0 < length (get_or groups n []) → x ≡ get_or (get_or groups n []) 0 0 → LeastsBelow groups (leasts ++ x ∷ []) (n + 1)
LeastsBelow-push groups leasts n x so_far some is = record {
  len = omega (arith, length-append leasts (x ∷ []), so_far.len);
  first = λ i below. elim (cases_lt i n) [
    | inl less ↦
        let inside : i < length leasts = omega (arith, so_far.len) in
        let old = so_far.first i less in
        (old.0, get_or_append_left leasts (x ∷ []) 0 i inside ∙ old.1)
    | inr past ↦
        let same : i ≡ n = omega arith in
        rw same (some, get_or_push leasts x 0 n so_far.len ∙ is)
  ];
}

pub HeightsBelow-set : (graph : Graph) (numbers earliest : List ℕ) (count x raised : ℕ) → x < length graph → number_of numbers x < count → HeightsBelow graph numbers earliest count → HasRaisedPlace (get_or graph x []) (number_of numbers x) numbers (get_or earliest (number_of numbers x) 0) raised → HeightsBelow graph numbers (set earliest (number_of numbers x) raised) count
HeightsBelow-set graph numbers earliest count x raised x_below below so_far has =
    let at : ℕ = number_of numbers x in
    let inside : number_of numbers x < length earliest = omega (arith, so_far.len) in
    record {
      len = length-set earliest (number_of numbers x) raised ∙ so_far.len;
      edge = λ i i_below. elim (cases_eq i (number_of numbers x)) [
        | inl same ↦
            let new : get_or (set earliest (number_of numbers x) raised) (number_of numbers x) 0 ≡ raised = get_or-set_same earliest (number_of numbers x) raised 0 inside in
            rw (same, new)
            (elim has [
              | inl kept ↦ rw kept (so_far.edge (number_of numbers x) below)
              | inr (y, edge, less, is) ↦ inr (x, y, x_below, refl, edge, less, is)
            ])
        | inr other ↦ rw (get_or-set_other earliest (number_of numbers x) i raised 0 other) (so_far.edge i i_below)
      ];
    }

pub MarksWithin-skip : (row : List ℕ) (number : ℕ) (numbers : List ℕ) (old new : List Bool) (waiting_old waiting_new : List ℕ) (i : ℕ) → i < length row → MarksWithin (take i row) number numbers old new waiting_old waiting_new → MarksWithin (take (i + 1) row) number numbers old new waiting_old waiting_new
MarksWithin-skip row number numbers old new waiting_old waiting_new i below so_far = record {
  nodes = so_far.nodes;
  marks = λ k marked. elim (so_far.marks k marked) [ inl was ↦ inl was | inr both ↦ inr (Contains-take_old row i 0 k below both.0, both.1) ];
  waits = λ k there. elim (so_far.waits k there) [ inl was ↦ inl was | inr both ↦ inr (Contains-take_old row i 0 k below both.0, both.1) ];
  work = so_far.work;
}

pub MarksWithin-mark : (row : List ℕ) (number : ℕ) (numbers : List ℕ) (old new : List Bool) (waiting_old waiting_new : List ℕ) (i y : ℕ) → i < length row → y ≡ get_or row i 0 → y < length new → get_or new y false ≡ false → number_of numbers y ≡ number → MarksWithin (take i row) number numbers old new waiting_old waiting_new → MarksWithin (take (i + 1) row) number numbers old (set new y true) waiting_old (waiting_new ++ y ∷ [])
MarksWithin-mark row number numbers old new waiting_old waiting_new i y below at_i y_below clear is so_far = record {
  nodes = length-set new y true ∙ so_far.nodes;
  marks = λ k marked. elim ((marked_set new y k y_below).0 marked) [
    | inl earlier ↦ elim (so_far.marks k earlier) [ inl was ↦ inl was | inr both ↦ inr (Contains-take_old row i 0 k below both.0, both.1) ]
    | inr same ↦ inr (Contains-take_new row i 0 k below (same ∙ at_i), rw same is)
  ];
  waits = λ k there. elim (Contains-push_cases waiting_new y k there) [
    | inl earlier ↦ elim (so_far.waits k earlier) [ inl was ↦ inl was | inr both ↦ inr (Contains-take_old row i 0 k below both.0, both.1) ]
    | inr same ↦ inr (Contains-take_new row i 0 k below (same ∙ at_i), rw same is)
  ];
  work = work_left-mark new waiting_new y y_below clear ∙ so_far.work;
}

pub IsReachedWithinSearch-start : (graph : Graph) (numbers leasts : List ℕ) (marks : List Bool) (waiting : List ℕ) → marks ≡ replicate (length graph) false → waiting ≡ leasts → ((i : ℕ) → i < length leasts → (least_of leasts i < length graph) × (number_of numbers (least_of leasts i) ≡ i)) → IsReachedWithinSearch graph numbers leasts marks waiting
IsReachedWithinSearch-start graph numbers leasts marks waiting clear all_wait are = record {
  nodes = rw clear (length-replicate (length graph) false);
  reached = λ x marked.
      let below : x < length graph = rw (clear, length-replicate) at (marked-within marks x marked) in
      absurd (both_ways (get_or marks x false) (rw clear (get_or-replicate (length graph) x false false below)) marked);
  waits = λ x there.
      let (i, i_below, i_is) = rw all_wait at there in
      let at_i : least_of leasts i ≡ x = get_or_default leasts i 0 x i_below ∙ i_is in
      let both = are i i_below in
      (rw at_i at both.0, inl (rw (← at_i, both.1) refl));
}

pub IsReachedWithinSearch-step : (graph : Graph) (numbers leasts : List ℕ) (x : ℕ) (marks new : List Bool) (all waiting waiting_new : List ℕ) → IsClosed graph → all ≡ waiting ++ x ∷ [] → IsReachedWithinSearch graph numbers leasts marks all → MarksWithin (get_or graph x []) (number_of numbers x) numbers marks new waiting waiting_new → IsReachedWithinSearch graph numbers leasts new waiting_new
IsReachedWithinSearch-step graph numbers leasts x marks new all waiting waiting_new closed popped so_far row =
    let x_waits : Contains all x = rw popped (Contains-push_new waiting x x refl) in
    let x_near : IsReachedWithin graph numbers leasts x = (so_far.waits x x_waits).1 in
    let onward : (y : ℕ) → Edge graph x y → number_of numbers y ≡ number_of numbers x → Reaches graph (least_of leasts (number_of numbers y)) y =
    λ y edge same. rw same (elim x_near [ inl is ↦ rw is (one edge) | inr reach ↦ more reach edge ]) in
    record {
      nodes = row.nodes ∙ so_far.nodes;
      reached = λ y marked. elim (row.marks y marked) [ inl was ↦ so_far.reached y was | inr both ↦ onward y both.0 both.1 ];
      waits = λ y there. elim (row.waits y there) [
        | inl was ↦ so_far.waits y (rw popped (Contains-append_left waiting (x ∷ []) y was))
        | inr both ↦ (closed x y both.0, inr (onward y both.0 both.1))
      ];
    }

pub IsReachedWithinSearch-popped : (rows : List (Vec ℕ Global)) (numbers leasts : List ℕ) (x : ℕ) (marks : List Bool) (all waiting : List ℕ) → all ≡ waiting ++ x ∷ [] → IsReachedWithinSearch (lists rows) numbers leasts marks all → x < length rows
IsReachedWithinSearch-popped rows numbers leasts x marks all waiting popped so_far =
    let there : Contains all x = rw popped (Contains-push_new waiting x x refl) in
    omega (arith, length-map rows (λ r. r.items), (so_far.waits x there).0)

pub Closure-flip : {R S : ℕ → ℕ → Type 0} {a b : ℕ} → ((x y : ℕ) → R y x → S x y) → Closure R a b → Closure S b a
Closure-flip f (one r) = one (f _ _ r)
Closure-flip f (more p r) = Closure-trans (one (f _ _ r)) (Closure-flip f p)
