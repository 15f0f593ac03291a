-- the order of the groups is the only one
use Rattle.std.proofs.Common.{◌≡◌, ℕ, zero, suc, ◌<◌, ◌≤◌, List, [], length, get_or, take, Contains, ◌↔◌, inl, inr, refl, sym, ◌∙◌, arith, add-one}
use Rattle.std.proofs.lemmas.Bool.{cases_lt, cases_order}
use Rattle.std.proofs.lemmas.List.{take_more, take_all, get_or_default, ext_get_or}
use Rattle.std.proofs.lemmas.List.Kept.{AllPairs-from_increasing}
use Rattle.std.specs.List.{concat}
use Rattle.std.specs.List.Sorted.{IsStrictlyIncreasing}
use Rattle.hm_graph_components.specs.Digraph.{Graph, IsNext, AreGroups}

at_itself : (xs : List ℕ) (k : ℕ) → k < length xs → Contains xs (get_or xs k 0)
at_itself xs k below = (k, below, get_or_default xs k (get_or xs k 0) 0 below)

-- in an ascending list a smaller place has a smaller number
rising : (xs : List ℕ) → IsStrictlyIncreasing xs → (i j : ℕ) → i < j → j < length xs → get_or xs i 0 < get_or xs j 0
rising xs up i j less below = AllPairs-from_increasing xs up i j 0 less below

-- two ascending lists with the same elements agree at each place, where they agree before it
same_at : (xs ys : List ℕ) → IsStrictlyIncreasing xs → IsStrictlyIncreasing ys → ((x : ℕ) → Contains xs x → Contains ys x) → ((x : ℕ) → Contains ys x → Contains xs x) → (bound k : ℕ) → k < bound → k < length xs → (k < length ys) × (get_or xs k 0 ≡ get_or ys k 0)
same_at xs ys up up' there back zero k small below = absurd (omega arith)
same_at xs ys up up' there back (suc bound) k small below =
    let (m, m_below, m_is) = there (get_or xs k 0) (at_itself xs k below) in
    let m_at : get_or ys m 0 ≡ get_or xs k 0 = get_or_default ys m 0 (get_or xs k 0) m_below ∙ m_is in
    elim (cases_order m k) [
      | inl same ↦ ((omega arith), sym (rw same at m_at))
      | inr (inl less) ↦
          -- the m-th of xs is the m-th of ys, which is the k-th of xs
          let m_in : m < length xs = omega arith in
          let before = same_at xs ys up up' there back bound m (omega arith) m_in in
          absurd (omega (arith, rising xs up m k less below, before.1, m_at))
      | inr (inr above) ↦
          -- the k-th of ys is below the k-th of xs, and is some n-th of xs, so n is below k
          let k_in : k < length ys = omega arith in
          let smaller : get_or ys k 0 < get_or ys m 0 = rising ys up' k m above m_below in
          let (n, n_below, n_is) = back (get_or ys k 0) (at_itself ys k k_in) in
          let n_at : get_or xs n 0 ≡ get_or ys k 0 = get_or_default xs n 0 (get_or ys k 0) n_below ∙ n_is in
          elim (cases_order n k) [
            | inl n_same ↦
                let at_k : get_or xs k 0 ≡ get_or ys k 0 = rw n_same at n_at in
                absurd (omega arith)
            | inr (inl n_less) ↦
                let before = same_at xs ys up up' there back bound n (omega arith) n_below in
                absurd (omega (arith, rising ys up' n k n_less k_in, before.1, n_at))
            | inr (inr n_above) ↦ absurd (omega (arith, rising xs up k n n_above n_below, n_at, m_at, smaller))
          ]
    ]

pub same_ascending : (xs ys : List ℕ) → IsStrictlyIncreasing xs → IsStrictlyIncreasing ys → ((x : ℕ) → Contains xs x ↔ Contains ys x) → xs ≡ ys
same_ascending xs ys up up' same =
    let there : (x : ℕ) → Contains xs x → Contains ys x = λ x. (same x).0 in
    let back : (x : ℕ) → Contains ys x → Contains xs x = λ x. (same x).1 in
    let not_longer : length xs ≤ length ys = elim (cases_lt (length ys) (length xs)) [
      | inl less ↦ absurd (omega (arith, (same_at xs ys up up' there back (suc (length ys)) (length ys) (omega arith) less).0))
      | inr le ↦ le
    ] in
    let not_shorter : length ys ≤ length xs = elim (cases_lt (length xs) (length ys)) [
      | inl less ↦ absurd (omega (arith, (same_at ys xs up' up back there (suc (length xs)) (length xs) (omega arith) less).0))
      | inr le ↦ le
    ] in
    ext_get_or 0 xs ys (omega arith) (λ k below. (same_at xs ys up up' there back (suc k) k (omega arith) below).1)

-- what comes after the same nodes is the same group
pub IsNext-unique : (graph : Graph) (before xs ys : List ℕ) → IsNext graph before xs → IsNext graph before ys → xs ≡ ys
IsNext-unique graph before xs ys one_next other_next =
    let same : one_next.least ≡ other_next.least = omega (arith, one_next.first other_next.least other_next.may_come, other_next.first one_next.least one_next.may_come) in
    same_ascending xs ys one_next.group_of.ascending other_next.group_of.ascending
    (λ y. (
      (λ there. (other_next.group_of.members y).1 (rw same at ((one_next.group_of.members y).0 there))),
      (λ there. (one_next.group_of.members y).1 (rw (← same) at ((other_next.group_of.members y).0 there))),
    ))

-- all nodes stand in the groups, so that no group comes after them
no_more : (graph : Graph) (gs hs : List (List ℕ)) → AreGroups graph gs → AreGroups graph hs → length gs < length hs → take (length gs) hs ≡ gs → ⊥
no_more graph gs hs all_of next less same =
    let n = next.each (length gs) less in
    n.may_come.absent (rw same (all_of.all n.least n.may_come.node))

same_before : (graph : Graph) (gs hs : List (List ℕ)) → AreGroups graph gs → AreGroups graph hs → (n : ℕ) → n ≤ length gs → n ≤ length hs → take n gs ≡ take n hs
same_before graph gs hs of_gs of_hs zero le le' = refl
same_before graph gs hs of_gs of_hs (suc n) le le' =
    let in_gs : n < length gs = omega arith in
    let in_hs : n < length hs = omega arith in
    let before : take n gs ≡ take n hs = same_before graph gs hs of_gs of_hs n (omega arith) (omega arith) in
    let next : get_or gs n [] ≡ get_or hs n [] = IsNext-unique graph (concat (take n gs)) (get_or gs n []) (get_or hs n []) (of_gs.each n in_gs) (rw before (of_hs.each n in_hs)) in
    rw (← add-one, take_more gs n [] in_gs, take_more hs n [] in_hs, before, next) refl

-- a graph has one list of groups in their order
pub AreGroups-unique : (graph : Graph) (gs hs : List (List ℕ)) → AreGroups graph gs → AreGroups graph hs → gs ≡ hs
AreGroups-unique graph gs hs of_gs of_hs =
    elim (cases_order (length gs) (length hs)) [
      | inl same ↦
          let le : length hs ≤ length gs = omega arith in
          sym (take_all (length gs) gs (omega arith)) ∙ (same_before graph gs hs of_gs of_hs (length gs) (omega arith) (omega arith) ∙ take_all (length gs) hs le)
      | inr (inl less) ↦ absurd (no_more graph gs hs of_gs of_hs less
          (sym (same_before graph gs hs of_gs of_hs (length gs) (omega arith) (omega arith)) ∙ take_all (length gs) gs (omega arith)))
      | inr (inr more) ↦ absurd (no_more graph hs gs of_hs of_gs more
          (same_before graph gs hs of_gs of_hs (length hs) (omega arith) (omega arith) ∙ take_all (length hs) hs (omega arith)))
    ]

pub one_list_of_groups : (graph : Graph) (gs hs : List (List ℕ)) → AreGroups graph gs → AreGroups graph hs → gs ≡ hs
one_list_of_groups graph gs hs of_gs of_hs = AreGroups-unique graph gs hs of_gs of_hs
