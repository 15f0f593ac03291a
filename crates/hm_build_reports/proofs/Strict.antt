-- Names that differ, in order, are in strict order.
use Rattle.std.proofs.Common.{◌≡◌, ◌≢◌, ℕ, ◌+◌, false, List, [], get_or, ⊎_elim, refl, sym, ap, ◌∙◌, arith, bytes_eq}
use Rattle.std.proofs.lemmas.Bool.{cases_Bool}
use Rattle.std.specs.List.{IsDistinct}
use Rattle.std.specs.Ordering.{nat_cmp, is_lt, is_eq, ordering_reverse}
use Rattle.std.specs.declared.cmp.Ordering.{Ordering}
use Rattle.std.specs.declared.cmp.Ordering.TheVariants.{Less, Equal, Greater}
use Rattle.std.specs.Cmp.Lexicographic.{slice_cmp, nat_list_cmp_total}
use Rattle.std.specs.List.Sorted.{IsPermutation, IsSortedBy}
use Rattle.std.proofs.lemmas.Map.Keys.{IsDistinct-IsPermutation, apart_from_distinct, sorted_from_all_adjacent}
use Rattle.std.proofs.lemmas.Map.Text.{is_eq-slice_cmp}
use Rattle.std.proofs.lemmas.Slice.Eq.{bytes_eq-Decides}
use Rattle.hm_types.specs.Interfaces.{AreOrdered}
use Rattle.hm_run_sources.specs.Names.{name_below}

flips : (x y : List ℕ) → bytes_eq x y ≡ bytes_eq y x
flips x y = sym (is_eq-slice_cmp x y) ∙ (ap is_eq (nat_list_cmp_total.antisymm x y) ∙ (turned (slice_cmp nat_cmp y x) ∙ is_eq-slice_cmp y x))
  where
    turned : (o : Ordering) → is_eq (ordering_reverse o) ≡ is_eq o
    turned Less = refl
    turned Equal = refl
    turned Greater = refl

below : (o p : Ordering) → o ≡ ordering_reverse p → is_lt p ≡ false → is_eq o ≡ false → o ≡ Less
below Less p e f g = refl
below Equal p e f g = cc
below Greater Less e f g = cc
below Greater Equal e f g = cc
below Greater Greater e f g = cc

-- names that aren't the same are unlike to the comparison of bytes
pub unlike : (x y : List ℕ) → x ≢ y → bytes_eq x y ≡ false
unlike x y n = ⊎_elim (λ t. absurd (n ((bytes_eq-Decides x y).0 t))) (λ f. f) (cases_Bool (bytes_eq x y))

pub strict : (xs ys : List (List ℕ)) → IsDistinct bytes_eq xs → IsPermutation xs ys → IsSortedBy name_below ys → AreOrdered ys
strict xs ys apart same up = sorted_from_all_adjacent nat_list_cmp_total ys []
    (λ k h. below (slice_cmp nat_cmp (get_or ys k []) (get_or ys (k + 1) [])) (slice_cmp nat_cmp (get_or ys (k + 1) []) (get_or ys k []))
    (nat_list_cmp_total.antisymm (get_or ys k []) (get_or ys (k + 1) [])) (up k [] (omega arith) h)
    (is_eq-slice_cmp (get_or ys k []) (get_or ys (k + 1) []) ∙ apart_from_distinct bytes_eq ys k (k + 1) [] (IsDistinct-IsPermutation bytes_eq flips xs ys same apart) (omega arith) h))
