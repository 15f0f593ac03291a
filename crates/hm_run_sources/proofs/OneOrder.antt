-- A list of names has one order, and so has a list of blocks with distinct names.
use Rattle.std.proofs.Common.{◌≡◌, ℕ, suc, ◌+◌, ◌<◌, true, false, List, [], ◌∷◌, length, map, get_or, refl, sym, ap, ◌∙◌, arith, bytes_eq, Contains, inl, inr, if◌then◌else◌}
use Rattle.std.specs.Prelude.{sum_by}
use Rattle.std.specs.Ordering.{nat_cmp, is_lt, is_eq, ordering_reverse}
use Rattle.std.specs.declared.cmp.Ordering.{Ordering}
use Rattle.std.specs.declared.cmp.Ordering.TheVariants.{Less, Equal, Greater}
use Rattle.std.specs.Cmp.{IsStrictWeakOrder}
use Rattle.std.specs.Cmp.Lexicographic.{slice_cmp, nat_list_cmp_total}
use Rattle.std.specs.List.Sorted.{IsPermutation, IsSortedBy}
use Rattle.std.proofs.lemmas.Bool.{cases_Bool}
use Rattle.std.proofs.lemmas.List.{get_or-map, length-map, ext_get_or}
use Rattle.std.proofs.lemmas.List.Sums.{sum_by-cons}
use Rattle.std.proofs.lemmas.List.Sorted.{ranks_by, sorted_far, sum_by-IsPermutation, IsPermutation-map, IsPermutation-sym, Contains-permutation}
use Rattle.std.proofs.lemmas.List.Elements.{Contains-get_or}
use Rattle.std.proofs.lemmas.Map.Text.{is_eq-slice_cmp}
use Rattle.std.proofs.lemmas.Slice.Eq.{bytes_eq-Decides}
use Rattle.hm_run_sources.specs.Names.{name_below}
use Rattle.hm_run_sources.specs.Plans.{AreOrdered, Block, block_below}
use Rattle.hm_run_sources.proofs.Ordering.{sorted_map}

-- ---- names

name_order : IsStrictWeakOrder name_below
name_order = ranks_by nat_list_cmp_total (λ x. x)

neither : (o p : Ordering) → o ≡ ordering_reverse p → is_lt o ≡ false → is_lt p ≡ false → is_eq o ≡ true
neither Less p e f g = cc
neither Equal p e f g = refl
neither Greater Less e f g = cc
neither Greater Equal e f g = cc
neither Greater Greater e f g = cc

-- two names of which neither is below the other are one
same_place : (x y : List ℕ) → name_below x y ≡ false → name_below y x ≡ false → x ≡ y
same_place x y f g =
    (bytes_eq-Decides x y).0 (sym (is_eq-slice_cmp x y) ∙ neither (slice_cmp nat_cmp x y) (slice_cmp nat_cmp y x) (nat_list_cmp_total.antisymm x y) f g)

-- how often a name stands in a list
pub mark : List ℕ → List ℕ → ℕ
mark z x = if bytes_eq z x then 1 else 0

pub count_in : List ℕ → List (List ℕ) → ℕ
count_in z xs = sum_by (mark z) xs

count_cons : (z x : List ℕ) (xs : List (List ℕ)) → count_in z (x ∷ xs) ≡ mark z x + count_in z xs
unfolding count_in
count_cons z x xs = sum_by-cons (mark z) x xs

mark_itself : (x : List ℕ) → mark x x ≡ 1
unfolding mark
mark_itself x = rw ((bytes_eq-Decides x x).1 refl) refl

mark_other : (z x : List ℕ) → bytes_eq z x ≡ false → mark z x ≡ 0
unfolding mark
mark_other z x e = rw e refl

count_nil : (z : List ℕ) → count_in z [] ≡ 0
unfolding count_in
count_nil z = refl

-- what is counted stands somewhere
found : (z : List ℕ) (xs : List (List ℕ)) → 0 < count_in z xs → (i : ℕ) × (i < length xs) × (get_or xs i [] ≡ z)
found z [] h = absurd (omega (arith, h, count_nil z))
found z (x ∷ xs) h = elim (cases_Bool (bytes_eq z x)) [
  | inl same ↦ (0, omega arith, sym ((bytes_eq-Decides z x).0 same))
  | inr other ↦
      let rest = found z xs (omega (arith, h, count_cons z x xs, mark_other z x other)) in
      (suc rest.0, omega (arith, rest.1), rest.2)
]

-- the first of a sorted list is the least
least : (x : List ℕ) (xs : List (List ℕ)) (z : List ℕ) → IsSortedBy name_below (x ∷ xs) → 0 < count_in z (x ∷ xs) → name_below z x ≡ false
least x xs z up h =
    let f = found z (x ∷ xs) h in
    let low = sorted_far name_below name_order (x ∷ xs) up 0 f.0 [] (omega arith) f.1 in
    rw f.2 at low

sorted_tail : (x : List ℕ) (xs : List (List ℕ)) → IsSortedBy name_below (x ∷ xs) → IsSortedBy name_below xs
sorted_tail x xs up k d low high =
    let next : suc k + 1 ≡ suc (k + 1) = omega arith in
    rw next at (up (suc k) d (omega arith) (omega (arith, high)))

pub same_sorted : (xs ys : List (List ℕ)) → IsSortedBy name_below xs → IsSortedBy name_below ys → ((z : List ℕ) → count_in z xs ≡ count_in z ys) → xs ≡ ys
same_sorted [] [] up up' counts = refl
same_sorted [] (y ∷ ys) up up' counts = absurd (omega (arith, counts y, count_nil y, count_cons y y ys, mark_itself y))
same_sorted (x ∷ xs) [] up up' counts = absurd (omega (arith, counts x, count_nil x, count_cons x x xs, mark_itself x))
same_sorted (x ∷ xs) (y ∷ ys) up up' counts =
    let x_there : 0 < count_in x (y ∷ ys) = omega (arith, counts x, count_cons x x xs, mark_itself x) in
    let y_there : 0 < count_in y (x ∷ xs) = omega (arith, counts y, count_cons y y ys, mark_itself y) in
    let heads : x ≡ y = same_place x y (least y ys x up' x_there) (least x xs y up y_there) in
    let rest : (z : List ℕ) → count_in z xs ≡ count_in z ys =
    λ z. let marks : mark z x ≡ mark z y = ap (mark z) heads in omega (arith, counts z, count_cons z x xs, count_cons z y ys, marks) in
    let tails : xs ≡ ys = same_sorted xs ys (sorted_tail x xs up) (sorted_tail y ys up') rest in
    cc

counts_permuted : (z : List ℕ) (xs ys : List (List ℕ)) → IsPermutation xs ys → count_in z ys ≡ count_in z xs
unfolding count_in
counts_permuted z xs ys p = sum_by-IsPermutation (mark z) xs ys p

-- a list of names has one order
pub one_order : (names xs ys : List (List ℕ)) → AreOrdered names xs → AreOrdered names ys → xs ≡ ys
one_order names xs ys o p = same_sorted xs ys o.sorted p.sorted (λ z. counts_permuted z names xs o.same ∙ sym (counts_permuted z names ys p.same))

-- ---- blocks

pub same_block : (x y : Block) → x.name ≡ y.name → x.imports ≡ y.imports → x ≡ y
same_block x y e f = ap (λ n. record { name = n; imports = x.imports }) e ∙ ap (λ l. record { name = y.name; imports = l }) f

-- no two blocks of the list have one name
unfoldable pub HaveOwnNames : List Block → Type 0
HaveOwnNames blocks = (x y : Block) → Contains blocks x → Contains blocks y → x.name ≡ y.name → x ≡ y

within_blocks : (blocks ordered : List Block) → IsPermutation blocks ordered → (k : ℕ) (d : Block) → k < length ordered → Contains blocks (get_or ordered k d)
within_blocks blocks ordered p k d below =
    Contains-permutation ordered blocks (get_or ordered k d) (IsPermutation-sym blocks ordered p) (Contains-get_or ordered k d below)

pub one_order_of_blocks : (blocks xs ys : List Block) → HaveOwnNames blocks → IsPermutation blocks xs → IsPermutation blocks ys → IsSortedBy block_below xs → IsSortedBy block_below ys → xs ≡ ys
unfolding HaveOwnNames
one_order_of_blocks blocks xs ys own p q up up' =
    let names : map (λ b. b.name) xs ≡ map (λ b. b.name) ys =
    same_sorted (map (λ b. b.name) xs) (map (λ b. b.name) ys) (sorted_map (λ b. b.name) name_below xs up) (sorted_map (λ b. b.name) name_below ys up')
    (λ z. counts_permuted z (map (λ b. b.name) blocks) (map (λ b. b.name) xs) (IsPermutation-map (λ b. b.name) blocks xs p) ∙ sym (counts_permuted z (map (λ b. b.name) blocks) (map (λ b. b.name) ys) (IsPermutation-map (λ b. b.name) blocks ys q))) in
    let d : Block = record { name = []; imports = [] } in
    let long : length xs ≡ length ys = sym (length-map xs (λ b. b.name)) ∙ ap length names ∙ length-map ys (λ b. b.name) in
    ext_get_or d xs ys long
    (λ k below.
    let below' : k < length ys = omega (arith, below, long) in
    let same : (get_or xs k d).name ≡ (get_or ys k d).name =
    sym (get_or-map (λ b. b.name) xs k d [] below) ∙ (ap (λ l. get_or l k []) names ∙ get_or-map (λ b. b.name) ys k d [] below') in
    own (get_or xs k d) (get_or ys k d) (within_blocks blocks xs p k d below) (within_blocks blocks ys q k d below') same)
