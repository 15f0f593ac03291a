-- Entries in the order of their names: a name has one of them.
use Rattle.std.proofs.Common.{◌≡◌, ℕ, List, [], ◌∷◌, map, Contains, inl, inr, sym, ap, ◌∙◌, subst}
use Rattle.std.specs.Ordering.{nat_cmp}
use Rattle.std.specs.Cmp.Lexicographic.{slice_cmp}
use Rattle.std.specs.declared.cmp.Ordering.{Ordering}
use Rattle.std.specs.declared.cmp.Ordering.TheVariants.{Less, Equal, Greater}
use Rattle.std.specs.List.{AllByRecursion}
use Rattle.std.specs.List.Sorted.{IsStrictlySortedBy}
use Rattle.std.proofs.lemmas.Cmp.{nat_list_cmp_total, tied_itself}
use Rattle.hm_types.specs.Interfaces.{AreOrdered}
use Rattle.hm_typing.specs.Names.{IsOneOf}
use Rattle.hm_names.proofs.OrderedLists.{one_of_contained}

is_less : Ordering → Type 0
is_less Less = Unit {0}
is_less Equal = ⊥
is_less Greater = ⊥

not_less_itself : (x : List ℕ) → slice_cmp nat_cmp x x ≡ Less → ⊥
unfolding is_less
not_less_itself x e = subst is_less (sym e ∙ tied_itself nat_list_cmp_total x) tt

below_one : {X : Type 0} (key : X → List ℕ) (k : List ℕ) (xs : List X) (x : X) → AllByRecursion (λ y. slice_cmp nat_cmp k y ≡ Less) (map key xs) → IsOneOf x xs → slice_cmp nat_cmp k (key x) ≡ Less
below_one key k [] x a o = absurd o
below_one key k (y ∷ ys) x a (inl e) = subst (λ z. slice_cmp nat_cmp k (key z) ≡ Less) (sym e) a.0
below_one key k (y ∷ ys) x a (inr o) = below_one key k ys x a.1 o

one_of_each : {X : Type 0} (key : X → List ℕ) (xs : List X) (x y : X) → AreOrdered (map key xs) → IsOneOf x xs → IsOneOf y xs → key x ≡ key y → x ≡ y
unfolding IsStrictlySortedBy
one_of_each key [] x y a o p e = absurd o
one_of_each key (z ∷ zs) x y a (inl f) (inl g) e = f ∙ sym g
one_of_each key (z ∷ zs) x y a (inl f) (inr p) e = absurd (not_less_itself (key z) (subst (λ k. slice_cmp nat_cmp (key z) k ≡ Less) (sym e ∙ ap key f) (below_one key (key z) zs y a.0 p)))
one_of_each key (z ∷ zs) x y a (inr o) (inl g) e = absurd (not_less_itself (key z) (subst (λ k. slice_cmp nat_cmp (key z) k ≡ Less) (e ∙ ap key g) (below_one key (key z) zs x a.0 o)))
one_of_each key (z ∷ zs) x y a (inr o) (inr p) e = one_of_each key zs x y a.1 o p e

-- two entries with one name are one
pub one_entry : {X : Type 0} (key : X → List ℕ) (xs : List X) (x y : X) → AreOrdered (map key xs) → Contains xs x → Contains xs y → key x ≡ key y → x ≡ y
one_entry key xs x y ordered has_x has_y same = one_of_each key xs x y ordered (one_of_contained xs x has_x) (one_of_contained xs y has_y) same
