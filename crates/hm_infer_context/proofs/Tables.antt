-- Tables of names, as lists of which the last comes first.
use Rattle.std.proofs.Common.{◌≡◌, ℕ, ◌+◌, ◌<◌, List, [], ◌∷◌, ◌++◌, length, get_or, take, drop, refl, sym, ap, ◌∙◌, arith}
use Rattle.std.proofs.lemmas.List.{take_more, take-append-drop, length-take-le, length-append}
use Rattle.hm_infer_context.specs.Patterns.{Variable}
use Rattle.hm_infer_context.specs.Environments.{Assumed, monomorphic_entries}
use Rattle.hm_infer_context.specs.Kept.{stack, variable_of, variables_of, assumed_of, entries_of, monomorphic_of}
use Rattle.hm_infer_context.specs.declared.variables.Variable.{Variable as KeptVariable}
use Rattle.hm_infer_context.specs.declared.environment.Binding.{Binding}

pub stack_append : {A B : Type 0} (f : A → B) (xs zs : List A) (ys : List B) → stack f (xs ++ zs) ys ≡ stack f zs (stack f xs ys)
stack_append f [] zs ys = refl
stack_append f (x ∷ xs) zs ys = stack_append f xs zs (f x ∷ ys)

pub stack_push : {A B : Type 0} (f : A → B) (xs us : List A) (y : A) (ys : List B) → us ≡ xs ++ y ∷ [] → stack f us ys ≡ f y ∷ stack f xs ys
stack_push f xs us y ys e = ap (λ zs. stack f zs ys) e ∙ stack_append f xs (y ∷ []) ys

pub stack_pushed : {A B : Type 0} (f : A → B) (xs us : List A) (y : A) (ys vs : List B) → us ≡ xs ++ y ∷ [] → stack f xs ys ≡ vs → stack f us ys ≡ f y ∷ vs
stack_pushed f xs us y ys vs e v = stack_push f xs us y ys e ∙ ap (λ zs. f y ∷ zs) v

pub stack_one_more : {A B : Type 0} (f : A → B) (xs : List A) (i : ℕ) (d : A) → i < length xs → d ≡ get_or xs i d → stack f (take (i + 1) xs) [] ≡ f d ∷ stack f (take i xs) []
stack_one_more f xs i d h e = stack_push f (take i xs) (take (i + 1) xs) d [] (take_more xs i d h ∙ ap (λ z. take i xs ++ z ∷ []) (sym e))

pub stack_over : {A B : Type 0} (f : A → B) (xs : List A) (ys : List B) → stack f xs ys ≡ stack f xs [] ++ ys
stack_over f [] ys = refl
stack_over f (x ∷ xs) ys = stack_over f xs (f x ∷ ys) ∙ (over (stack f xs []) (f x) ys ∙ ap (λ z. z ++ ys) (sym (stack_over f xs (f x ∷ []))))
  where
    over : {B : Type 0} (zs : List B) (y : B) (ys : List B) → zs ++ y ∷ ys ≡ (zs ++ y ∷ []) ++ ys
    over [] y ys = refl
    over (z ∷ zs) y ys = ap (λ k. z ∷ k) (over zs y ys)

pub stack_length : {A B : Type 0} (f : A → B) (xs : List A) (ys : List B) → length (stack f xs ys) ≡ length xs + length ys
stack_length f [] ys = omega arith
stack_length f (x ∷ xs) ys = stack_length f xs (f x ∷ ys) ∙ omega arith

-- Assumptions

-- a suffix is told by its length
suffix : {B : Type 0} (us added base cs : List B) → us ++ cs ≡ added ++ base → length cs ≡ length base → cs ≡ base
suffix [] [] base cs e l = e
suffix [] (x ∷ added) base cs e l = absurd (too_long e l)
  where
    too_long : cs ≡ (x ∷ added) ++ base → length cs ≡ length base → ⊥
    too_long e l = let k : length cs ≡ length ((x ∷ added) ++ base) = ap length e in absurd (omega (arith, length-append added base))
suffix (a ∷ us) [] base cs e l = absurd (too_short e l)
  where
    too_short : (a ∷ us) ++ cs ≡ base → length cs ≡ length base → ⊥
    too_short e l = let k : length ((a ∷ us) ++ cs) ≡ length base = ap length e in absurd (omega (arith, length-append us cs))
suffix (a ∷ us) (x ∷ added) base cs e l = suffix us added base cs (let f : us ++ cs ≡ added ++ base = cc in f) l

pub truncated : (xs : List Binding) (n : ℕ) (es added base : List Assumed) → entries_of xs ≡ es → es ≡ added ++ base → length base ≡ n → entries_of (take n xs) ≡ base
truncated xs n es added base v e l =
    suffix (stack assumed_of (drop n xs) []) added base (entries_of (take n xs)) (whole ∙ (v ∙ e)) many
  where
    whole : stack assumed_of (drop n xs) [] ++ entries_of (take n xs) ≡ entries_of xs
    whole = sym (stack_over assumed_of (drop n xs) (entries_of (take n xs))) ∙ (sym (stack_append assumed_of (take n xs) (drop n xs) []) ∙ ap entries_of (take-append-drop n xs))

    all : length xs ≡ length added + length base
    all = (let k : length (entries_of xs) ≡ length xs + 0 = stack_length assumed_of xs [] in let m : length (entries_of xs) ≡ length (added ++ base) = ap length (v ∙ e) in omega (arith, length-append added base))

    many : length (entries_of (take n xs)) ≡ length base
    many = (let k : length (entries_of (take n xs)) ≡ length (take n xs) + 0 = stack_length assumed_of (take n xs) [] in let a = all in let b : length (take n xs) ≡ n = length-take-le n xs (omega arith) in omega arith)

-- variables, as assumptions

pub monomorphic_stack : (xs : List KeptVariable) (vs : List Variable) (es : List Assumed) → stack monomorphic_of xs (monomorphic_entries vs ++ es) ≡ monomorphic_entries (stack variable_of xs vs) ++ es
monomorphic_stack [] vs es = refl
monomorphic_stack (x ∷ xs) vs es = monomorphic_stack xs (variable_of x ∷ vs) es

pub bound_each : (xs ys : List KeptVariable) (vs : List Variable) (es fs : List Assumed) → ys ≡ xs → variables_of xs ≡ vs → fs ≡ stack monomorphic_of ys es → fs ≡ monomorphic_entries vs ++ es
bound_each xs ys vs es fs y v e = e ∙ (ap (λ zs. stack monomorphic_of zs es) y ∙ (monomorphic_stack xs [] es ∙ ap (λ ws. monomorphic_entries ws ++ es) v))
