-- Two lists that have the same names place by place.
use Rattle.std.proofs.Common.{◌≡◌, ℕ, ◌+◌, ◌<◌, List, [], ◌∷◌, ◌++◌, map, take, length, get_or, sym, ap, ◌∙◌}
use Rattle.std.proofs.lemmas.List.{get_or-map, map-append, take_more}
use Rattle.std.proofs.lemmas.Simd.{map-map}

more : {X Y N : Type 0} (f : X → N) (g : Y → N) (xs : List X) (ys : List Y) (i : ℕ) (x : X) (y d : Y) → i < length xs → i < length ys → x ≡ get_or xs i x → y ≡ get_or ys i d → f x ≡ g y → map f (take i xs) ≡ map g (take i ys) → map f (take (i + 1) xs) ≡ map g (take (i + 1) ys)
more f g xs ys i x y d l k e b n h =
    ap (map f) (take_more xs i x l ∙ ap (λ z. take i xs ++ z ∷ []) (sym e)) ∙ (map-append f (take i xs) (x ∷ [])
    ∙ (ap (λ z. z ++ f x ∷ []) h ∙ (ap (λ z. map g (take i ys) ++ z ∷ []) n
    ∙ (sym (map-append g (take i ys) (y ∷ [])) ∙ ap (map g) (sym (take_more ys i d k ∙ ap (λ z. take i ys ++ z ∷ []) (sym b)))))))

-- one more place
pub one_more : {A X Y N : Type 0} (a : A → X) (f : X → N) (g : Y → N) (xs : List A) (ys : List Y) (i : ℕ) (x : A) (y d : Y) → i < length xs → i < length ys → x ≡ get_or xs i x → y ≡ get_or ys i d → f (a x) ≡ g y → map f (map a (take i xs)) ≡ map g (take i ys) → map f (map a (take (i + 1) xs)) ≡ map g (take (i + 1) ys)
one_more a f g xs ys i x y d l k e b n h = map-map f a (take (i + 1) xs) ∙ more (λ z. f (a z)) g xs ys i x y d l k e b n (sym (map-map f a (take i xs)) ∙ h)

there : {X Y N : Type 0} (f : X → N) (g : Y → N) (xs : List X) (ys : List Y) (i : ℕ) (x : X) (y d : Y) → i < length xs → i < length ys → x ≡ get_or xs i x → y ≡ get_or ys i d → map f xs ≡ map g ys → f x ≡ g y
there f g xs ys i x y d l k e b h = ap f e ∙ (sym (get_or-map f xs i x (f x) l) ∙ (ap (λ z. get_or z i (f x)) h ∙ (get_or-map g ys i d (f x) k ∙ ap g (sym b))))

-- lists that have the same names have the same one there
pub same_there : {A X Y N : Type 0} (a : A → X) (f : X → N) (g : Y → N) (xs : List A) (ys : List Y) (i : ℕ) (x : A) (y d : Y) → i < length xs → i < length ys → x ≡ get_or xs i x → y ≡ get_or ys i d → map f (map a xs) ≡ map g ys → f (a x) ≡ g y
same_there a f g xs ys i x y d l k e b h = there (λ z. f (a z)) g xs ys i x y d l k e b (sym (map-map f a xs) ∙ h)
