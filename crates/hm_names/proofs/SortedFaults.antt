-- What a sort of faults gives.
use Rattle.std.proofs.Common.{◌≡◌, ℕ, ◌<◌, ◌==◌, cond, true, List, [], ◌∷◌, Option, Some, None, ◌⊎◌, inl, inr, refl, sym, ap, ◌∙◌, subst, arith}
use Rattle.std.specs.Ordering.{nat_cmp, ordering_then, eq_by_cmp}
use Rattle.std.specs.declared.cmp.Ordering.{Ordering}
use Rattle.std.specs.declared.cmp.Ordering.TheVariants.{Less, Equal, Greater}
use Rattle.std.specs.Cmp.Lexicographic.{slice_cmp}
use Rattle.std.specs.List.Sorted.{IsStrictlySortedBy}
use Rattle.std.proofs.lemmas.Map.Lookups.{CmpEqualImpliesEq, exact_unsigned, exact_bytes}
use Rattle.std.proofs.lemmas.Map.Views.{tells_apart}
use Rattle.hm_names.specs.declared.faults.Kind.{Kind}
use Rattle.hm_names.specs.declared.faults.Kind.TheVariants.{NotExported, Duplicate, NoBinding, Unbound, Ambiguous, ExportClash, NotImported, NonLinear, Arity, ClauseLength, Untyped, Recursive}
use Rattle.hm_names.specs.declared.faults.Fault.{Fault}
use Rattle.hm_names.specs.Faults.Exports.{IsAtMost}
use Rattle.hm_names.specs.Faults.Phases.{kind_number, By, IsBefore, AreOrdered}
use Rattle.hm_names.specs.FaultOrder.{fault_cmp}

less_of : (a b : ℕ) → nat_cmp a b ≡ Less → a < b
less_of a b e = grind (arith, e)

then_less : (o p : Ordering) → ordering_then o p ≡ Less → (o ≡ Less) ⊎ ((o ≡ Equal) × (p ≡ Less))
then_less Less p e = inl refl
then_less Equal p e = inr (refl, e)
then_less Greater p e = let f : Greater ≡ Less = e in cc

then_equal : (o p : Ordering) → ordering_then o p ≡ Equal → (o ≡ Equal) × (p ≡ Equal)
then_equal Less p e = let f : Less ≡ Equal = e in cc
then_equal Equal p e = (refl, e)
then_equal Greater p e = let f : Greater ≡ Equal = e in cc

by_less : (a b : ℕ) (p : Ordering) (Next : Type 0) → ordering_then (nat_cmp a b) p ≡ Less → (p ≡ Less → Next) → By a b Next
by_less a b p Next e h = elim (then_less (nat_cmp a b) p e) [ inl l ↦ inl (less_of a b l) | inr s ↦ inr (exact_unsigned a b s.0, h s.1) ]

at_most : (xs ys : List ℕ) → slice_cmp nat_cmp xs ys ≡ Less → IsAtMost xs ys
at_most [] ys e = tt
at_most (x ∷ xs) [] e = let f : Greater ≡ Less = e in cc
at_most (x ∷ xs) (y ∷ ys) e = elim (then_less (nat_cmp x y) (slice_cmp nat_cmp xs ys) e) [ inl l ↦ inl (less_of x y l) | inr s ↦ inr (exact_unsigned x y s.0, at_most xs ys s.1) ]

own_name : (xs : List ℕ) → slice_cmp nat_cmp xs xs ≡ Less → ⊥
own_name [] e = let f : Equal ≡ Less = e in cc
own_name (x ∷ xs) e = elim (then_less (nat_cmp x x) (slice_cmp nat_cmp xs xs) e) [ inl l ↦ let f : x < x = less_of x x l in absurd (omega arith) | inr s ↦ own_name xs s.1 ]

pub before : (f g : Fault) → fault_cmp f g ≡ Less → IsBefore f g
before f g e =
    by_less f.place.line g.place.line _ _ e (λ e1.
    by_less f.place.column g.place.column _ _ e1 (λ e2.
    by_less (kind_number f.kind) (kind_number g.kind) _ _ e2 (λ e3.
    (at_most f.name g.name e3, λ same. own_name g.name (subst (λ x. slice_cmp nat_cmp x g.name ≡ Less) same e3)))))

pub ordered : (fs : List Fault) → IsStrictlySortedBy fault_cmp fs → AreOrdered fs
unfolding IsStrictlySortedBy
ordered [] s = tt
ordered (f ∷ []) s = tt
ordered (f ∷ g ∷ fs) s = (before f g s.0.0, ordered (g ∷ fs) s.1)

-- Faults that the order doesn't tell apart are one

abbrev numbered : ℕ → Option Kind
numbered n =
    cond (n == 1) (Some NotExported) (cond (n == 2) (Some Duplicate) (cond (n == 3) (Some NoBinding) (cond (n == 4) (Some Unbound) (cond (n == 5) (Some Ambiguous) (cond (n == 6) (Some ExportClash) (cond (n == 7) (Some NotImported) (cond (n == 8) (Some NonLinear) (cond (n == 9) (Some Arity) (cond (n == 10) (Some ClauseLength) (cond (n == 11) (Some Untyped) (cond (n == 12) (Some Recursive) (None))))))))))))

numbered_is : (k : Kind) → numbered (kind_number k) ≡ Some k
numbered_is NotExported = refl
numbered_is Duplicate = refl
numbered_is NoBinding = refl
numbered_is Unbound = refl
numbered_is Ambiguous = refl
numbered_is ExportClash = refl
numbered_is NotImported = refl
numbered_is NonLinear = refl
numbered_is Arity = refl
numbered_is ClauseLength = refl
numbered_is Untyped = refl
numbered_is Recursive = refl

same_kind : (j k : Kind) → kind_number j ≡ kind_number k → j ≡ k
same_kind j k e = let s : Some j ≡ Some k = sym (numbered_is j) ∙ ap numbered e ∙ numbered_is k in cc

abbrev made : ℕ → ℕ → Kind → List ℕ → Fault
made l c k n = record { place = record { line = l; column = c }; kind = k; name = n }

same_made : (l m c d : ℕ) (k j : Kind) (n o : List ℕ) → l ≡ m → c ≡ d → k ≡ j → n ≡ o → made l c k n ≡ made m d j o
same_made l m c d k j n o e1 e2 e3 e4 = cc

pub one_fault : CmpEqualImpliesEq fault_cmp
one_fault f g e =
    let a = then_equal (nat_cmp f.place.line g.place.line) _ e in
    let b = then_equal (nat_cmp f.place.column g.place.column) _ a.1 in
    let d = then_equal (nat_cmp (kind_number f.kind) (kind_number g.kind)) _ b.1 in
    let line : f.place.line ≡ g.place.line = exact_unsigned _ _ a.0 in
    let column : f.place.column ≡ g.place.column = exact_unsigned _ _ b.0 in
    let kind : f.kind ≡ g.kind = same_kind f.kind g.kind (exact_unsigned _ _ d.0) in
    let name : f.name ≡ g.name = exact_bytes f.name g.name d.1 in
    same_made f.place.line g.place.line f.place.column g.place.column f.kind g.kind f.name g.name line column kind name

pub one_by_test : (f g : Fault) → eq_by_cmp fault_cmp f g ≡ true → f ≡ g
one_by_test f g e = tells_apart one_fault f g e
