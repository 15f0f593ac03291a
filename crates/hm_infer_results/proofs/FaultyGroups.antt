-- The groups of a list that are faults, one after the other, and the first places of members.
use native.Mathlib.Decide.{ℕ_discrete}
use Rattle.std.proofs.Common.{◌≡◌, ℕ, zero, suc, ◌+◌, ◌<◌, ◌≤◌, All, List, [], ◌∷◌, ◌++◌, take, length, get_or, Bool, true, false, Option, inl, inr, ◌⊎◌, ⊎_elim, refl, sym, ap, ◌∙◌, subst, subst₂, arith}
use Rattle.std.proofs.lemmas.List.{take_more, take_all}
use Rattle.hm_typing.specs.Names.{IsOneOf}
use Rattle.hm_syntax.specs.Trees.{Declaration}
use Rattle.hm_infer_dependencies.proofs.MemberLists.{one_pushed}
use Rattle.hm_infer_dependencies.specs.declared.members.Member.{Member}
use Rattle.hm_names_keys.specs.Variables.{Variable}
use Rattle.hm_infer_expressions.specs.Dependences.{IsMarked}
use Rattle.hm_infer_results.specs.UnitFaults.{AreAlike, AreGroupsTold, GroupTold, IsSameTable, has_none, has_types}
use Rattle.hm_infer_expressions.proofs.MemberForms.{same_member}

-- Whether a node is in a group

pub is_in : (k : ℕ) (ks : List ℕ) → Dec (IsOneOf k ks)
is_in k [] = no (λ o. o)
is_in k (j ∷ ks) = Rattle.hm_typing.specs.Decisions.either (ℕ_discrete k j) (is_in k ks)

-- A table is marked, and as it was again

module _ (group : List ℕ) (old marked new : List Bool) (off : (j : ℕ) → IsOneOf j group → get_or old j false ≡ false) (on : IsMarked group true old marked) (back : IsMarked group false marked new) where
  pub restored : IsSameTable old new
  restored j = at (is_in j group)
    where
      at : Dec (IsOneOf j group) → get_or new j false ≡ get_or old j false
      at (yes o) = (back j).0 o ∙ sym (off j o)
      at (no n) = (back j).1 n ∙ (on j).1 n

pub first_in : (group : List ℕ) (d : ℕ) → 0 < length group → IsOneOf (get_or group 0 d) group
first_in [] d l = absurd (omega arith)
first_in (j ∷ group) d l = inl refl

pub told_before : (decls : List Declaration) (nodes : List (Option Variable)) (rows : List (List ℕ)) (group : List ℕ) (old new : List Bool) (b : Bool) → IsSameTable old new → GroupTold decls nodes rows group new b → GroupTold decls nodes rows group old b
told_before decls nodes rows group old new b s (has_types j o t e) = has_types j o (sym (s j) ∙ t) e
told_before decls nodes rows group old new b s (has_none j o t marked m ms a told) = has_none j o (sym (s j) ∙ t) marked (λ i. ((m i).0, λ n. (m i).1 n ∙ s i)) ms a told

pub alike_after : (group : List ℕ) (old new : List Bool) → IsSameTable old new → AreAlike group old → AreAlike group new
alike_after group old new s a i j o p = s i ∙ (a i j o p ∙ sym (s j))

-- The groups of a list, one after the other

pub one_at : {X : Type 0} (xs : List X) (i : ℕ) (x : X) → i < length xs → x ≡ get_or xs i x → IsOneOf x xs
one_at [] i x l e = absurd (omega arith)
one_at (y ∷ xs) zero x l e = inl e
one_at (y ∷ xs) (suc i) x l e = inr (one_at xs i x (omega arith) e)

pub below_all : (n : ℕ) (group : List ℕ) → ((j : ℕ) → IsOneOf j group → j < n) → All (λ j. j < n) group
below_all n [] f i d l = absurd (omega arith)
below_all n (j ∷ group) f zero d l = f j (inl refl)
below_all n (j ∷ group) f (suc i) d l = below_all n group (λ m o. f m (inr o)) i d (omega arith)

pub one_told : (decls : List Declaration) (nodes : List (Option Variable)) (rows gs : List (List ℕ)) (i : ℕ) (group : List ℕ) (typed bs : List Bool) (b : Bool) → i < length gs → group ≡ get_or gs i group → AreGroupsTold decls nodes rows (take i gs) typed bs → GroupTold decls nodes rows group typed b →
    AreGroupsTold decls nodes rows (take (suc i) gs) typed (bs ++ b ∷ [])
one_told decls nodes rows [] i group typed bs b l e h t = absurd (omega arith)
one_told decls nodes rows (g ∷ gs) zero group typed [] b l e h t = (subst (λ z. GroupTold decls nodes rows z typed b) e t, tt)
one_told decls nodes rows (g ∷ gs) zero group typed (c ∷ bs) b l e h t = absurd h
one_told decls nodes rows (g ∷ gs) (suc i) group typed [] b l e h t = absurd h
one_told decls nodes rows (g ∷ gs) (suc i) group typed (c ∷ bs) b l e h t = (h.0, one_told decls nodes rows gs i group typed bs b (omega arith) e h.1 t)

pub all_told : (decls : List Declaration) (nodes : List (Option Variable)) (rows gs : List (List ℕ)) (i : ℕ) (typed bs : List Bool) → length gs ≤ i → AreGroupsTold decls nodes rows (take i gs) typed bs → AreGroupsTold decls nodes rows gs typed bs
all_told decls nodes rows gs i typed bs l h = subst (λ z. AreGroupsTold decls nodes rows z typed bs) (take_all i gs l) h

pub next_told : (decls : List Declaration) (nodes : List (Option Variable)) (rows gs : List (List ℕ)) (i : ℕ) (group : List ℕ) (typed bs cs : List Bool) (b : Bool) → i < length gs → group ≡ get_or gs i group → cs ≡ bs ++ b ∷ [] → AreGroupsTold decls nodes rows (take i gs) typed bs → GroupTold decls nodes rows group typed b →
    AreGroupsTold decls nodes rows (take (i + 1) gs) typed cs
next_told decls nodes rows gs i group typed bs cs b l e f h t = subst₂ (λ m z. AreGroupsTold decls nodes rows (take m gs) typed z) (more i) (sym f) (one_told decls nodes rows gs i group typed bs b l e h t)
  where
    more : (m : ℕ) → suc m ≡ m + 1
    more m = omega arith

-- The first place of a list of members

first_kept : (ms : List Member) (i : ℕ) (m : Member) (p q : ℕ) → i < length ms → m ≡ get_or ms i m → ((o : Member) × (IsOneOf o ms × (o.place ≡ p))) → ((m.place < p) × (q ≡ m.place)) ⊎ ((p ≤ m.place) × (q ≡ p)) → (o : Member) × (IsOneOf o ms × (o.place ≡ q))
first_kept ms i m p q l e h (inl c) = (m, (one_at ms i m l e, sym c.1))
first_kept ms i m p q l e h (inr c) = (h.0, (h.1.0, h.1.1 ∙ sym c.1))

first_least : (ms : List Member) (i : ℕ) (m : Member) (p q : ℕ) → i < length ms → m ≡ get_or ms i m → ((o : Member) → IsOneOf o (take i ms) → p ≤ o.place) → ((m.place < p) × (q ≡ m.place)) ⊎ ((p ≤ m.place) × (q ≡ p)) → (o : Member) → IsOneOf o (take (i + 1) ms) → q ≤ o.place
first_least ms i m p q l e h c o one = ⊎_elim (λ r. before c (h o r)) (λ r. last c (ap (λ (z : Member). z.place) r)) ((one_pushed o m (take i ms)).0 (subst (IsOneOf o) (take_more ms i m l ∙ ap (λ z. take i ms ++ z ∷ []) (sym e)) one))
  where
    before : ((m.place < p) × (q ≡ m.place)) ⊎ ((p ≤ m.place) × (q ≡ p)) → p ≤ o.place → q ≤ o.place
    before (inl d) g = let a = d.0 in let b = d.1 in omega (arith, a, b, g)
    before (inr d) g = let a = d.0 in let b = d.1 in omega (arith, a, b, g)

    last : ((m.place < p) × (q ≡ m.place)) ⊎ ((p ≤ m.place) × (q ≡ p)) → o.place ≡ m.place → q ≤ o.place
    last (inl d) g = let a = d.1 in omega (arith, a, g)
    last (inr d) g = let a = d.0 in let b = d.1 in omega (arith, a, b, g)

pub first_member : (ms : List Member) (i : ℕ) (d : Member) (p q : ℕ) → i < length ms → ((o : Member) × (IsOneOf o ms × (o.place ≡ p))) → ((o : Member) → IsOneOf o (take i ms) → p ≤ o.place) → (((get_or ms i d).place < p) × (q ≡ (get_or ms i d).place)) ⊎ ((p ≤ (get_or ms i d).place) × (q ≡ p)) →
    ((o : Member) × (IsOneOf o ms × (o.place ≡ q))) × ((o : Member) → IsOneOf o (take (i + 1) ms) → q ≤ o.place)
first_member ms i d p q l h g c = (first_kept ms i (get_or ms i d) p q l (same_member ms i d l) h c, first_least ms i (get_or ms i d) p q l (same_member ms i d l) g c)

pub first_of_all : (ms : List Member) (i p : ℕ) → length ms ≤ i → ((o : Member) → IsOneOf o (take i ms) → p ≤ o.place) → (o : Member) → IsOneOf o ms → p ≤ o.place
first_of_all ms i p l g = subst (λ z. (o : Member) → IsOneOf o z → p ≤ o.place) (take_all i ms l) g
