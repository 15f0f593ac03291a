-- Types that are made of new variables.
use Rattle.std.proofs.Common.{◌≡◌, ℕ, zero, suc, ◌+◌, ◌-◌, ◌<◌, ◌≤◌, List, [], ◌∷◌, ◌++◌, length, false, refl, sym, ap, ap₂, ◌∙◌, subst, arith, length-append}
use Rattle.std.proofs.lemmas.List.{map-append}
use Rattle.hm_types.specs.Shape.{type_of, types_of}
use Rattle.hm_types.specs.declared.monotypes.Ty.{Ty}
use Rattle.hm_types.specs.declared.Head.TheVariants as head
use Rattle.hm_types.specs.Types.{Args, Var, App, done, more, put_all}
use Rattle.hm_types.specs.Monotypes.{Mono, Monos, var, arguments_of, list_of}
use Rattle.hm_typing.specs.Schemes.{Monotype, arrow}
use Rattle.hm_typing.specs.Patterns.{arguments, arrows}
use Rattle.hm_unify.specs.WellFormed.{IsWellFormed, AreWellFormed}
use Rattle.hm_infer_context.specs.Problems.{number, monotype}
use Rattle.hm_infer_context.specs.Patterns.{from_number}

abbrev pub function_from : Mono → Mono → Mono
function_from t u = App head.Arrow (more t (more u done))

-- one more argument in front
pub arrows_front : (first count j : ℕ) (t u : Mono) (w : Monotype) → 0 < j → j ≤ count → monotype u ≡ arrows (count - j) (from_number false first) j w →
    monotype (function_from (Var (var (first + (j - 1)))) u) ≡ arrows (count - (j - 1)) (from_number false first) (j - 1) w
arrows_front first count j t u w h l e =
    let s : count - (j - 1) ≡ suc (count - j) = omega arith in
    let k : suc (j - 1) ≡ j = omega arith in
    ap (arrow (Var (number (var (first + (j - 1)))))) (e ∙ ap (λ m. arrows (count - j) (from_number false first) m w) (sym k)) ∙ sym (ap (λ m. arrows m (from_number false first) (j - 1) w) s)

abbrev pub monotypes : Monos → Args ℕ
monotypes ts = put_all (λ l. Var (number l)) ts

-- one more argument behind
pub arguments_push : (ys : List Mono) (y : Mono) (ts : ℕ → Monotype) (k i : ℕ) → length ys ≡ k → monotypes (arguments_of ys) ≡ arguments k ts i → monotype y ≡ ts (i + k) → monotypes (arguments_of (ys ++ y ∷ [])) ≡ arguments (suc k) ts i
arguments_push [] y ts zero i n e m = let z : i + 0 ≡ i = omega arith in ap (λ t. more t done) (m ∙ ap ts z)
arguments_push [] y ts (suc k) i n e m = absurd (omega arith)
arguments_push (z ∷ ys) y ts zero i n e m = absurd (omega arith)
arguments_push (z ∷ ys) y ts (suc k) i n e m =
    let s : i + suc k ≡ suc i + k = omega arith in
    let f : monotype z ≡ ts i = cc in
    let g : monotypes (arguments_of ys) ≡ arguments k ts (suc i) = cc in
    ap₂ more f (arguments_push ys y ts k (suc i) (omega arith) g (m ∙ ap ts s))

pub well_formed_push : (g : ℕ) (ys : List Mono) (y : Mono) → AreWellFormed g (arguments_of ys) → IsWellFormed g y → AreWellFormed g (arguments_of (ys ++ y ∷ []))
well_formed_push g [] y a b = (b, tt)
well_formed_push g (z ∷ ys) y a b = (a.0, well_formed_push g ys y a.1 b)

pub length_arguments : (ys : List Mono) → length (list_of (arguments_of ys)) ≡ length ys
length_arguments [] = refl
length_arguments (y ∷ ys) = ap suc (length_arguments ys)

pub function_shape : (first count j : ℕ) (t t' w : Mono) → t' ≡ function_from (Var (var (first + (j - 1)))) t → 0 < j → j ≤ count → monotype t ≡ arrows (count - j) (from_number false first) j (monotype w) →
    monotype t' ≡ arrows (count - (j - 1)) (from_number false first) (j - 1) (monotype w)
function_shape first count j t t' w e h l s = ap monotype e ∙ arrows_front first count j t t (monotype w) h l s

pub function_given : (g first count j : ℕ) (t t' : Mono) → t' ≡ function_from (Var (var (first + (j - 1)))) t → 0 < j → j ≤ count → first + count ≤ g → IsWellFormed g t → IsWellFormed g t'
function_given g first count j t t' e h l b w = subst (IsWellFormed g) (sym e) (refl, (omega arith, (w, tt)))

pub pushed : (xs ys : List Ty) (y : Ty) → ys ≡ xs ++ y ∷ [] → types_of ys ≡ types_of xs ++ type_of y ∷ []
pushed xs ys y e = ap types_of e ∙ map-append type_of xs (y ∷ [])

pub parts_many : (xs ys : List Ty) (y : Ty) (j : ℕ) → ys ≡ xs ++ y ∷ [] → length (types_of xs) ≡ j → length (types_of ys) ≡ j + 1
parts_many xs ys y j e n = ap length (pushed xs ys y e) ∙ (length-append (types_of xs) (type_of y ∷ []) ∙ ap (λ k. k + 1) n)

pub parts_shape : (first j : ℕ) (xs ys : List Ty) (y : Ty) → ys ≡ xs ++ y ∷ [] → type_of y ≡ Var (var (first + j)) → length (types_of xs) ≡ j → monotypes (arguments_of (types_of xs)) ≡ arguments j (from_number false first) 0 →
    monotypes (arguments_of (types_of ys)) ≡ arguments (j + 1) (from_number false first) 0
parts_shape first j xs ys y e t n s =
    let k : j + 1 ≡ suc j = omega arith in
    let z : 0 + j ≡ j = omega arith in
    ap (λ ts. monotypes (arguments_of ts)) (pushed xs ys y e) ∙ (arguments_push (types_of xs) (type_of y) (from_number false first) j 0 n s (ap monotype t ∙ ap (from_number false first) (sym z)) ∙ ap (λ m. arguments m (from_number false first) 0) (sym k))

pub parts_given : (g first j : ℕ) (xs ys : List Ty) (y : Ty) → ys ≡ xs ++ y ∷ [] → type_of y ≡ Var (var (first + j)) → first + (j + 1) ≤ g → AreWellFormed g (arguments_of (types_of xs)) → AreWellFormed g (arguments_of (types_of ys))
parts_given g first j xs ys y e t b w =
    subst (λ ts. AreWellFormed g (arguments_of ts)) (sym (pushed xs ys y e)) (well_formed_push g (types_of xs) (type_of y) w (subst (IsWellFormed g) (sym t) below))
  where
    below : first + j < g
    below = omega arith

pub tuple_given : (g j count : ℕ) (ts us : List Mono) → us ≡ ts → length ts ≡ j → j ≡ count → AreWellFormed g (arguments_of ts) → (length (list_of (arguments_of us)) ≡ count) × AreWellFormed g (arguments_of us)
tuple_given g j count ts us e n f w = (length_arguments us ∙ (ap length e ∙ (n ∙ f)), subst (λ k. AreWellFormed g (arguments_of k)) (sym e) w)
