-- Lists in order under a view of their elements.
use Rattle.std.proofs.Common.{◌≡◌, ℕ, ◌+◌, ◌<◌, Bool, List, [], ◌∷◌, ◌++◌, length, map, take, get_or, arith, sym, ap, subst, ◌∙◌, inl, inr}
use Rattle.std.proofs.lemmas.List.{get_or-map, length-map, map-append, take_more, length-append, get_or_append_left, get_or_at}
use Rattle.std.proofs.lemmas.Bool.{cases_lt}
use Rattle.std.specs.List.Sorted.{IsSortedBy}
use Rattle.hm_syntax.specs.declared.ast.Header.{Header}
use Rattle.hm_graph.specs.Outline.{outline, outlines}
use Rattle.hm_graph.specs.Imports.{IsImportPlan, name_at}
use Rattle.std.specs.Prelude.{All}
use Rattle.std.proofs.lemmas.List.Elements.{All-from_get_or, Contains-get_or}

pub sorted_map : {X Y : Type 0} (f : X → Y) (lt : Y → Y → Bool) (xs : List X) → IsSortedBy (λ x y. lt (f x) (f y)) xs → IsSortedBy lt (map f xs)
sorted_map f lt [] h k d low high = absurd (omega arith)
sorted_map f lt (x ∷ xs) h k d low high =
    let within : k + 1 < length (x ∷ xs) = omega (arith, length-map (x ∷ xs) f) in
    rw (get_or-map f (x ∷ xs) (k + 1) x d within, get_or-map f (x ∷ xs) k x d (omega arith)) (h k x low within)

-- a header's name by its place
pub name_at_map : (hs : List Header) (j : ℕ) (d : Header) → j < length hs → name_at (outlines hs) j ≡ (get_or hs j d).name.text
name_at_map hs j d h = ap (λ o. o.name) (get_or-map outline hs j d (record { name = []; imports = [] }) h)

pub outlines_below : (hs : List Header) (m : ℕ) → m < length (outlines hs) → m < length hs
outlines_below hs m h = omega (arith, h, length-map hs outline)

-- the numbers in a row of a plan are those of modules
pub row_within : (hs : List Header) (plan : List (List ℕ)) (m : ℕ) (row : List ℕ) → IsImportPlan (outlines hs) plan → m < length hs → row ≡ get_or plan m [] → All (λ i. i < length hs) row
row_within hs plan m row p below same =
    let here : m < length (outlines hs) = omega (arith, below, length-map hs outline) in
    subst (λ r. All (λ i. i < length hs) r) (sym same)
    (All-from_get_or (λ i. i < length hs) (get_or plan m []) 0
    (λ k within. outlines_below hs (get_or (get_or plan m []) k 0) (((p.each m here).members (get_or (get_or plan m []) k 0)).0 (Contains-get_or (get_or plan m []) k 0 within)).0))

-- one more name
pub names_more : {X : Type 0} (view : X → List ℕ) (f : ℕ → List ℕ) (xs new : List X) (x : X) (row : List ℕ) (i : ℕ) → i < length row → new ≡ xs ++ x ∷ []
    → map view xs ≡ map f (take i row) → view x ≡ f (get_or row i 0) → map view new ≡ map f (take (i + 1) row)
names_more view f xs new x row i within pushed before here =
    let front : map view xs ++ view x ∷ [] ≡ map f (take i row) ++ f (get_or row i 0) ∷ [] = cc in
    ap (map view) pushed ∙ map-append view xs (x ∷ []) ∙ front ∙ sym (ap (map f) (take_more row i 0 within) ∙ map-append f (take i row) (get_or row i 0 ∷ []))

-- one more block
pub each_more : {X B : Type 0} (f : X → B) (P : ℕ → B → Type 0) (xs new : List X) (x : X) (m : ℕ) → new ≡ xs ++ x ∷ [] → length (map f xs) ≡ m
    → ((k : ℕ) (d : B) → k < length (map f xs) → P k (get_or (map f xs) k d)) → P m (f x)
    → (length (map f new) ≡ m + 1) × ((k : ℕ) (d : B) → k < length (map f new) → P k (get_or (map f new) k d))
each_more {X} {B} f P xs new x m pushed long before here =
    let mapped : map f new ≡ map f xs ++ f x ∷ [] = ap (map f) pushed ∙ map-append f xs (x ∷ []) in
    let count : length (map f xs ++ f x ∷ []) ≡ m + 1 = length-append (map f xs) (f x ∷ []) ∙ omega arith in
    let each : (k : ℕ) (d : B) → k < length (map f xs ++ f x ∷ []) → P k (get_or (map f xs ++ f x ∷ []) k d) =
    λ k d h. elim (cases_lt k m) [
      | inl low ↦ subst (P k) (sym (get_or_append_left (map f xs) (f x ∷ []) d k (omega arith))) (before k d (omega arith))
      | inr high ↦ let same : k ≡ m = omega arith in
          subst (λ j. P j (get_or (map f xs ++ f x ∷ []) j d)) (sym same) (subst (P m) (sym (get_or_at (map f xs) (f x) [] d m long)) here)
    ] in
    (ap length mapped ∙ count, λ k d h. subst (λ l. P k (get_or l k d)) (sym mapped) (each k d (subst (λ l. k < length l) mapped h)))
