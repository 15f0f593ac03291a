-- The members of a group, row after row.
use Rattle.std.proofs.Common.{◌≡◌, ℕ, zero, suc, ◌+◌, ◌<◌, ◌≤◌, ◌⊎◌, ⊎_elim, inl, inr, List, [], ◌∷◌, ◌++◌, take, length, get_or, Contains, All, refl, sym, ap, ◌∙◌, subst, arith, ◌↔◌, Vec, Global}
use Rattle.std.proofs.lemmas.List.{take_more, take_all}
use Rattle.hm_graph_components.specs.Digraph.{Edge, lists}
use Rattle.hm_graph_components.proofs.Rows.{row_at}
use Rattle.hm_graph_components.proofs.Members.{Contains-take_cases, Contains-take_old, Contains-take_new}
use Rattle.hm_typing.specs.Names.{IsOneOf}
use Rattle.hm_infer_dependencies.specs.declared.members.Member.{Member}
use Rattle.hm_infer_dependencies.specs.GroupMembers.{AddsRow, AreMembersOf}

one_left : {X : Type 0} (x : X) (xs ys : List X) → IsOneOf x xs → IsOneOf x (xs ++ ys)
one_left x [] ys o = absurd o
one_left x (z ∷ xs) ys (inl e) = inl e
one_left x (z ∷ xs) ys (inr o) = inr (one_left x xs ys o)

one_right : {X : Type 0} (x : X) (xs ys : List X) → IsOneOf x ys → IsOneOf x (xs ++ ys)
one_right x [] ys o = o
one_right x (z ∷ xs) ys o = inr (one_right x xs ys o)

one_cases : {X : Type 0} (x : X) (xs ys : List X) → IsOneOf x (xs ++ ys) → IsOneOf x xs ⊎ IsOneOf x ys
one_cases x [] ys o = inr o
one_cases x (z ∷ xs) ys (inl e) = inl (inl e)
one_cases x (z ∷ xs) ys (inr o) = ⊎_elim (λ h. inl (inr h)) inr (one_cases x xs ys o)

pub one_pushed : {X : Type 0} (x y : X) (xs : List X) → IsOneOf x (xs ++ y ∷ []) ↔ (IsOneOf x xs ⊎ (x ≡ y))
one_pushed x y xs = (
  (λ o. ⊎_elim inl (λ h. ⊎_elim inr (λ k. absurd k) h) (one_cases x xs (y ∷ []) o)),
  (λ s. ⊎_elim (λ h. one_left x xs (y ∷ []) h) (λ e. one_right x xs (y ∷ []) (inl e)) s),
)

member_is : (m : Member) (p n : ℕ) → m.place ≡ p → m.node ≡ n → m ≡ record { place = p; node = n }
member_is m p n e f = Rattle.std.proofs.Common.ap₂ (λ a b. record { place = a; node = b }) e f

pub row_step : (node : ℕ) (row : List ℕ) (i : ℕ) (old now new : List Member) → i < length row → AddsRow node (take i row) old now → new ≡ now ++ record { place = get_or row i 0; node = node } ∷ [] → AddsRow node (take (i + 1) row) old new
row_step node row i old now new l f e m = (
  (λ o. ⊎_elim
      (λ h. ⊎_elim inl (λ k. inr (k.0, Contains-take_old row i 0 m.place l k.1)) ((f m).0 h))
      (λ h. inr (ap (λ z. z.node) h, Contains-take_new row i 0 m.place l (ap (λ z. z.place) h)))
      ((one_pushed m _ now).0 (subst (IsOneOf m) e o))),
  (λ s. subst (IsOneOf m) (sym e) ((one_pushed m _ now).1 (⊎_elim
      (λ h. inl ((f m).1 (inl h)))
      (λ h. ⊎_elim (λ k. inl ((f m).1 (inr (h.0, k)))) (λ k. inr (member_is m (get_or row i 0) node k h.0)) (Contains-take_cases row i 0 m.place l h.1))
      s))),
)

pub row_all : (node : ℕ) (row : List ℕ) (i : ℕ) (old new : List Member) → length row ≤ i → AddsRow node (take i row) old new → AddsRow node row old new
row_all node row i old new l f = subst (λ r. AddsRow node r old new) (take_all i row l) f

pub members_step : (rows : List (Vec ℕ Global)) (group : List ℕ) (i : ℕ) (v : Vec ℕ Global) (row : List ℕ) (now new : List Member) → i < length group → get_or group i 0 < length rows → v ≡ get_or rows (get_or group i 0) v → row ≡ v.items →
    AreMembersOf (lists rows) (take i group) now → AddsRow (get_or group i 0) row now new → AreMembersOf (lists rows) (take (i + 1) group) new
members_step rows group i v row now new l b is r f g m = (
  (λ o. ⊎_elim
      (λ h. let k = (f m).0 h in (subst (IsOneOf m.node) (sym more) ((one_pushed m.node (get_or group i 0) (take i group)).1 (inl k.0)), k.1))
      (λ h. (subst (IsOneOf m.node) (sym more) ((one_pushed m.node (get_or group i 0) (take i group)).1 (inr h.0)), subst (λ n. Edge (lists rows) n m.place) (sym h.0) (subst (λ z. Contains z m.place) here h.1)))
      ((g m).0 o)),
  (λ p. (g m).1 (⊎_elim
      (λ h. inl ((f m).1 (h, p.1)))
      (λ h. inr (h, subst (λ z. Contains z m.place) (sym here) (subst (λ n. Edge (lists rows) n m.place) h p.1)))
      ((one_pushed m.node (get_or group i 0) (take i group)).0 (subst (IsOneOf m.node) more p.0)))),
)
  where
    more : take (i + 1) group ≡ take i group ++ get_or group i 0 ∷ []
    more = take_more group i 0 l

    here : row ≡ get_or (lists rows) (get_or group i 0) []
    here = r ∙ sym (row_at rows (get_or group i 0) v b is)

pub members_all : (rows : List (List ℕ)) (group : List ℕ) (i : ℕ) (new : List Member) → length group ≤ i → AreMembersOf rows (take i group) new → AreMembersOf rows group new
members_all rows group i new l f = subst (λ g. AreMembersOf rows g new) (take_all i group l) f
