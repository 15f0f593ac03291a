-- A stack of types in a vector: the last is the topmost.
use Rattle.std.proofs.Common.{◌≡◌, ℕ, zero, suc, ◌+◌, ◌≤◌, List, [], ◌∷◌, ◌++◌, length, take, drop, reverse, sym, ap, ◌∙◌, arith}
use Rattle.std.proofs.lemmas.List.{map-append, reverse-append, take_all, drop_all, length-drop}
use Rattle.hm_types.specs.declared.monotypes.Ty.{Ty}
use Rattle.hm_types.specs.Monotypes.{Mono}
use Rattle.hm_types.specs.Shape.{type_of, types_of}

take_suc : (xs : List Mono) (k : ℕ) (x : Mono) (rest : List Mono) → drop k xs ≡ x ∷ rest → take (suc k) xs ≡ take k xs ++ x ∷ []
take_suc [] zero x rest e = cc
take_suc [] (suc k) x rest e = cc
take_suc (y ∷ ys) zero x rest e = cc
take_suc (y ∷ ys) (suc k) x rest e = ap (λ l. y ∷ l) (take_suc ys k x rest e)

drop_suc : (xs : List Mono) (k : ℕ) (x : Mono) (rest : List Mono) → drop k xs ≡ x ∷ rest → drop (suc k) xs ≡ rest
drop_suc [] zero x rest e = cc
drop_suc [] (suc k) x rest e = cc
drop_suc (y ∷ ys) zero x rest e = cc
drop_suc (y ∷ ys) (suc k) x rest e = drop_suc ys k x rest e

-- the stack with one type less
popped : (stack left : List Ty) (t : Ty) (rest : List Mono) → stack ≡ left ++ t ∷ [] → reverse (types_of stack) ≡ rest → rest ≡ type_of t ∷ reverse (types_of left)
popped stack left t rest pop is = sym is ∙ ap (λ s. reverse (types_of s)) pop ∙ ap reverse (map-append type_of left (t ∷ [])) ∙ reverse-append (types_of left) (type_of t ∷ [])

pub taken_more : (all : List Mono) (k : ℕ) (stack left taken next : List Ty) (t : Ty) → types_of taken ≡ take k all → reverse (types_of stack) ≡ drop k all → stack ≡ left ++ t ∷ [] → next ≡ taken ++ t ∷ []
    → types_of next ≡ take (k + 1) all
taken_more all k stack left taken next t so_far rest pop push =
    let one_more : k + 1 ≡ suc k = omega arith in
    ap types_of push ∙ map-append type_of taken (t ∷ []) ∙ ap (λ l. l ++ type_of t ∷ []) so_far ∙ sym (take_suc all k (type_of t) (reverse (types_of left)) (popped stack left t (drop k all) pop rest)) ∙ ap (λ n. take n all) (sym one_more)

pub left_more : (all : List Mono) (k : ℕ) (stack left : List Ty) (t : Ty) → reverse (types_of stack) ≡ drop k all → stack ≡ left ++ t ∷ [] → reverse (types_of left) ≡ drop (k + 1) all
left_more all k stack left t rest pop =
    let one_more : k + 1 ≡ suc k = omega arith in
    sym (drop_suc all k (type_of t) (reverse (types_of left)) (popped stack left t (drop k all) pop rest)) ∙ ap (λ n. drop n all) (sym one_more)

-- a stack that is empty before so many types are taken
no_more : (all : List Mono) (k count : ℕ) (stack : List Ty) → reverse (types_of stack) ≡ drop k all → length stack ≡ 0 → k ≤ count → (length all ≤ k) × (length all ≤ count)
no_more all k count [] rest none below =
    let short : 0 ≡ length (drop k all) = ap length rest in
    (omega (arith, short, length-drop k all), omega (arith, short, length-drop k all))
no_more all k count (t ∷ stack) rest none below = absurd (omega (arith, none))

pub all_taken : (all : List Mono) (k count : ℕ) (stack taken : List Ty) → types_of taken ≡ take k all → reverse (types_of stack) ≡ drop k all → length stack ≡ 0 → k ≤ count → types_of taken ≡ take count all
all_taken all k count stack taken so_far rest none below =
    let short = no_more all k count stack rest none below in
    so_far ∙ take_all k all short.0 ∙ sym (take_all count all short.1)

pub none_left : (all : List Mono) (k count : ℕ) (stack left : List Ty) → reverse (types_of stack) ≡ drop k all → length stack ≡ 0 → length left ≡ 0 → k ≤ count → reverse (types_of left) ≡ drop count all
none_left all k count stack [] rest none empty below = sym (drop_all count all (no_more all k count stack rest none below).1)
none_left all k count stack (t ∷ left) rest none empty below = absurd (omega (arith, empty))
