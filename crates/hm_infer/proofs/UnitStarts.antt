-- Where the groups that are faults begin.
use Rattle.std.proofs.Common.{◌≡◌, ℕ, ◌+◌, ◌<◌, ◌≤◌, ◌⊎◌, List, [], ◌∷◌, ◌++◌, length, get_or, Bool, true, false, inl, inr, ⊎_elim, refl, sym, ap, ◌∙◌, subst, arith, true≢false}
use Rattle.std.proofs.lemmas.List.{get_or_default}
use Rattle.hm_typing.specs.Names.{IsOneOf}
use Rattle.hm_infer_dependencies.proofs.MemberLists.{one_pushed}
use Rattle.hm_infer_dependencies.specs.GroupMembers.{AreMembersOf}
use Rattle.hm_infer_dependencies.specs.declared.members.Member.{Member}
use Rattle.hm_infer_results.specs.UnitFaults.{IsFirstPlace}
use Rattle.hm_infer_context.proofs.States.{less_or}
use Rattle.hm_infer.specs.UnitStarts.{AddsStart, AreGroupStarts, HasMember, IsFaultStart, IsStartOf}

-- the members of a group that has a declaration aren't none
pub some_member : (rows : List (List ℕ)) (group : List ℕ) (ms : List Member) → HasMember rows group → AreMembersOf rows group ms → 0 < length ms
some_member rows group [] h a = absurd ((a h.0).1 h.1)
some_member rows group (m ∷ ms) h a = omega arith

pub start_added : (rows : List (List ℕ)) (group old new : List ℕ) (ms : List Member) (p : ℕ) (b : Bool) → b ≡ true → new ≡ old ++ p ∷ [] → AreMembersOf rows group ms → IsFirstPlace ms p → AddsStart b rows group old new
start_added rows group old new ms p true t e a f = (p, (e, record { members = ms; are_members = a; first = f }))
start_added rows group old new ms p false t e a f = absurd (true≢false (sym t))

pub none_added : (rows : List (List ℕ)) (group old new : List ℕ) (b : Bool) → b ≡ false → new ≡ old → AddsStart b rows group old new
none_added rows group old new false f e = e
none_added rows group old new true f e = absurd (true≢false f)

pub no_starts : (rows gs : List (List ℕ)) (faulty : List Bool) → AreGroupStarts rows gs faulty 0 []
no_starts rows gs faulty = record { each = λ i l m f. absurd (omega (arith, l)); back = λ p o. absurd o }

module _ (rows gs : List (List ℕ)) (faulty : List Bool) (i : ℕ) (group old new : List ℕ) (l : i < length gs) (here : group ≡ get_or gs i []) where
  last_or_before : (j : ℕ) → j < i + 1 → (j < i) ⊎ (j ≡ i)
  last_or_before j k = at (less_or j i)
    where
      at : (j < i) ⊎ (i ≤ j) → (j < i) ⊎ (j ≡ i)
      at (inl a) = inl a
      at (inr a) = inr (omega (arith, a, k))

  pub next_start : (b : Bool) → b ≡ get_or faulty i false → AreGroupStarts rows gs faulty i old → AddsStart b rows group old new → AreGroupStarts rows gs faulty (i + 1) new
  next_start true e s (p, (n, t)) = record {
    each = λ j k m f. ⊎_elim
        (λ a. let h = s.each j a m f in (h.0, (subst (IsOneOf h.0) (sym n) ((one_pushed h.0 p old).1 (inl h.1.0)), h.1.1)))
        (λ a. (p, (subst (IsOneOf p) (sym n) ((one_pushed p p old).1 (inr refl)), subst (λ z. IsFaultStart rows gs faulty z p) (sym a) own)))
        (last_or_before j k);
    back = λ q o. ⊎_elim (λ h. s.back q h) (λ a. (i, subst (IsFaultStart rows gs faulty i) (sym a) own)) ((one_pushed q p old).0 (subst (IsOneOf q) n o));
  }
    where
      own : IsFaultStart rows gs faulty i p
      own = record { inside = l; fault = sym e; start = subst (λ z. IsStartOf rows z p) here t }
  next_start false e s n = record {
    each = λ j k m f. ⊎_elim
        (λ a. let h = s.each j a m f in (h.0, (subst (IsOneOf h.0) (sym n) h.1.0, h.1.1)))
        (λ a. absurd (true≢false (sym f ∙ (ap (λ z. get_or faulty z false) a ∙ sym e))))
        (last_or_before j k);
    back = λ q o. s.back q (subst (IsOneOf q) n o);
  }

pub all_starts : (rows gs : List (List ℕ)) (faulty : List Bool) (i : ℕ) (starts : List ℕ) → length gs ≤ i → AreGroupStarts rows gs faulty i starts → AreGroupStarts rows gs faulty (length gs) starts
all_starts rows gs faulty i starts l s = record { each = λ j k m f. s.each j (omega (arith, k, l)) m f; back = s.back }

pub at_first : (gs : List (List ℕ)) (i : ℕ) (group : List ℕ) → i < length gs → group ≡ get_or gs i group → group ≡ get_or gs i []
at_first gs i group l e = e ∙ get_or_default gs i group [] l
