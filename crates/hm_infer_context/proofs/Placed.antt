-- Tables of the places of names.
use Rattle.std.proofs.Common.{◌≡◌, ℕ, zero, suc, ◌+◌, ◌<◌, ◌≤◌, min, ◌⊎◌, ⊎_elim, inl, inr, true, false, true≢false, cond, List, [], ◌∷◌, ◌++◌, length, get_or, take, drop, reverse, Option, None, Some, refl, sym, ap, ◌∙◌, subst, arith}
use Rattle.std.specs.List.{slice_get}
use Rattle.std.proofs.lemmas.Bool.{cases_Bool}
use Rattle.std.proofs.lemmas.List.{reverse-append, reverse-reverse, length-append, take_all, take_min, take-append-drop, drop_all, drop-append-le}
use Rattle.hm_types.specs.Shape.{type_of}
use Rattle.hm_typing.specs.Names.{Identifier, IsOneOf}
use Rattle.hm_names_keys.specs.Keys.{Table, number_of, same_variable, variable_of_key}
use Rattle.hm_names_keys.specs.Variables.{Variable, identifier}
use Rattle.hm_names_keys.proofs.Identifiers.{identifier_injective}
use Rattle.hm_names_keys.proofs.Pushed.{some_injective, get-push_new, get-push_old, get-push_cases}
use Rattle.hm_names_keys.proofs.SameVariables.{same_variable-is, same_variable-refl, differ}
use Rattle.hm_infer_context.specs.declared.environment.Binding.{Binding}
use Rattle.hm_infer_context.specs.declared.variables.Variable.{Variable as KeptVariable}
use Rattle.hm_infer_context.specs.Environments.{Assumed, IsSchemeOf, assumed_names}
use Rattle.hm_infer_context.specs.AssumedTypes.{type_in}
use Rattle.hm_infer_context.specs.Kept.{stack, assumed_of, entries_of, variable_of, variables_of}
use Rattle.hm_infer_context.specs.Patterns.{IsTypeOf, names_of, Variable as PatternVariable}
use Rattle.hm_infer_context.specs.Places.{IsTable, IsPlaced, IsPlaceOf, AreNoted, few}
use Rattle.hm_infer_context.proofs.Tables.{stack_append, stack_one_more, stack_over, stack_push}

-- Tables as functions

abbrev pub Places : Type 0
Places = Variable → Option ℕ

pub same_table : (bs : List Binding) (f g : Places) → ((x : Variable) → f x ≡ g x) → IsTable bs f → IsTable bs g
same_table [] f g e t = λ x. sym (e x) ∙ t x
same_table (b ∷ bs) f g e t = (
  sym (e (variable_of_key b.name)) ∙ t.0,
  same_table bs _ _ (λ x. ap (cond (same_variable (variable_of_key b.name) x) b.hidden) (e x)) t.1,
)

-- a binding more
pub one_bound : (b : Binding) (bs : List Binding) (f g : Places) → IsTable bs f → b.hidden ≡ f (variable_of_key b.name) → ((x : Variable) → g x ≡ cond (same_variable (variable_of_key b.name) x) (Some (length bs)) (f x)) → IsTable (b ∷ bs) g
one_bound b bs f g t h u = (
  u (variable_of_key b.name) ∙ ap (λ c. cond c (Some (length bs)) (f (variable_of_key b.name))) (same_variable-refl (variable_of_key b.name)),
  same_table bs f _ before t,
)
  where
    before : (x : Variable) → f x ≡ cond (same_variable (variable_of_key b.name) x) b.hidden (g x)
    before x = elim (cases_Bool (same_variable (variable_of_key b.name) x)) [
      | inl e ↦ sym (ap (λ c. cond c b.hidden (g x)) e ∙ (h ∙ ap f (same_variable-is (variable_of_key b.name) x e)))
      | inr e ↦ sym (ap (λ c. cond c b.hidden (g x)) e ∙ (u x ∙ ap (λ c. cond c (Some (length bs)) (f x)) e))
    ]

-- and one less
pub one_forgotten : (b : Binding) (bs : List Binding) (f g : Places) → IsTable (b ∷ bs) f → ((x : Variable) → g x ≡ cond (same_variable (variable_of_key b.name) x) b.hidden (f x)) → IsTable bs g
one_forgotten b bs f g t u = same_table bs _ g (λ x. sym (u x)) t.1

-- Entries

pub entries_push : (bs : List Binding) (b : Binding) → entries_of (reverse (b ∷ bs)) ≡ assumed_of b ∷ entries_of (reverse bs)
entries_push bs b = stack_push assumed_of (reverse bs) (reverse (b ∷ bs)) b [] (reverse-append (b ∷ []) bs)

length_reverse : {A : Type 0} (xs : List A) → length (reverse xs) ≡ length xs
length_reverse [] = refl
length_reverse (x ∷ xs) = let e : length (reverse (x ∷ xs)) ≡ length (reverse xs ++ x ∷ []) = ap length (reverse-append (x ∷ []) xs) in let n = length-append (reverse xs) (x ∷ []) in let k = length_reverse xs in omega (arith, e, n, k)

hidden_else : (b : Binding) (f : Places) (x : Variable) → same_variable (variable_of_key b.name) x ≡ false → cond (same_variable (variable_of_key b.name) x) b.hidden (f x) ≡ f x
hidden_else b f x e = ap (λ c. cond c b.hidden (f x)) e

-- a name that has no place isn't assumed
pub no_place : (bs : List Binding) (f : Places) (x : Variable) → IsTable bs f → f x ≡ None → ¬ (IsOneOf (identifier x) (assumed_names (entries_of (reverse bs))))
no_place [] f x t e o = o
no_place (b ∷ bs) f x t e o = ⊎_elim same (other (λ h. no_place bs _ x t.1 (hidden_else b f x h ∙ e))) (differ (variable_of_key b.name) x)
  where
    same : variable_of_key b.name ≡ x → ⊥
    same h = let k : Some (length bs) ≡ None = sym t.0 ∙ (ap f h ∙ e) in cc

    other : (same_variable (variable_of_key b.name) x ≡ false → ¬ (IsOneOf (identifier x) (assumed_names (entries_of (reverse bs))))) → same_variable (variable_of_key b.name) x ≡ false → ⊥
    other rest h = ⊎_elim
        (λ k. true≢false (sym (subst (λ z. same_variable z x ≡ true) (identifier_injective x (variable_of_key b.name) k) (same_variable-refl x)) ∙ h))
        (rest h)
        (subst (λ es. IsOneOf (identifier x) (assumed_names es)) (entries_push bs b) o)

-- a place is one of the list
pub place_inside : (bs : List Binding) (f : Places) (x : Variable) (p : ℕ) → IsTable bs f → f x ≡ Some p → p < length bs
place_inside [] f x p t e = let k : None ≡ Some p = sym (t x) ∙ e in cc
place_inside (b ∷ bs) f x p t e = ⊎_elim same (other (λ h. place_inside bs _ x p t.1 (hidden_else b f x h ∙ e))) (differ (variable_of_key b.name) x)
  where
    same : variable_of_key b.name ≡ x → p < length (b ∷ bs)
    same h = let k : length bs ≡ p = some_injective (sym t.0 ∙ (ap f h ∙ e)) in omega (arith, k)

    other : (same_variable (variable_of_key b.name) x ≡ false → p < length bs) → same_variable (variable_of_key b.name) x ≡ false → p < length (b ∷ bs)
    other rest h = let k = rest h in omega (arith, k)

get_before : {A : Type 0} (xs : List A) (y d : A) (p : ℕ) → p < length xs → slice_get (xs ++ y ∷ []) p ≡ Some d → slice_get xs p ≡ Some d
get_before xs y d p h e = ⊎_elim (λ k. k) (λ k. let n = k.0 in absurd (omega (arith, h, n))) (get-push_cases xs y d p e)

-- and has the innermost assumption of the name
pub place_found : (bs : List Binding) (f : Places) (x : Variable) (p : ℕ) (d : Binding) → IsTable bs f → f x ≡ Some p → slice_get (reverse bs) p ≡ Some d → IsSchemeOf (identifier x) (record { quantified = d.quantified; body = type_in d.body }) (entries_of (reverse bs))
place_found [] f x p d t e g = let k : None ≡ Some p = sym (t x) ∙ e in cc
place_found (b ∷ bs) f x p d t e g = subst (IsSchemeOf (identifier x) (assumed_of d).scheme) (sym (entries_push bs b)) (⊎_elim same (other (λ h g. place_found bs _ x p d t.1 (hidden_else b f x h ∙ e) g)) (differ (variable_of_key b.name) x))
  where
    at : slice_get (reverse bs ++ b ∷ []) p ≡ Some d
    at = subst (λ (ys : List Binding). slice_get ys p ≡ Some d) (reverse-append (b ∷ []) bs) g

    same : variable_of_key b.name ≡ x → IsSchemeOf (identifier x) (assumed_of d).scheme (assumed_of b ∷ entries_of (reverse bs))
    same h =
        let k : length (reverse bs) ≡ p = length_reverse bs ∙ some_injective (sym t.0 ∙ (ap f h ∙ e)) in
        let is : b ≡ d = some_injective (sym (get-push_new (reverse bs) b) ∙ (ap (λ n. slice_get (reverse bs ++ b ∷ []) n) k ∙ at)) in
        inl (ap identifier h, ap (λ z. (assumed_of z).scheme) is)

    other : (same_variable (variable_of_key b.name) x ≡ false → slice_get (reverse bs) p ≡ Some d → IsSchemeOf (identifier x) (assumed_of d).scheme (entries_of (reverse bs))) → same_variable (variable_of_key b.name) x ≡ false → IsSchemeOf (identifier x) (assumed_of d).scheme (assumed_of b ∷ entries_of (reverse bs))
    other rest h =
        let r = hidden_else b f x h ∙ e in
        let inside : p < length (reverse bs) = (let n = length_reverse bs in let k = place_inside bs _ x p t.1 r in omega (arith, n, k)) in
        inr (
          (λ k. true≢false (sym (subst (λ z. same_variable z x ≡ true) (sym (identifier_injective (variable_of_key b.name) x k)) (same_variable-refl x)) ∙ h)),
          rest h (get_before (reverse bs) b d p inside at),
        )

-- Of the list as it is kept, the outermost first

pub bound_last : (items items' : List Binding) (b : Binding) (old new : Table) → IsPlaced items old → items' ≡ items ++ b ∷ [] → b.hidden ≡ number_of old (variable_of_key b.name) →
    ((x : Variable) → number_of new x ≡ cond (same_variable (variable_of_key b.name) x) (Some (length items)) (number_of old x)) → IsPlaced items' new
bound_last items items' b old new t e h u =
    subst (λ (ys : List Binding). IsTable ys (number_of new)) (sym (ap reverse e ∙ reverse-append items (b ∷ [])))
    (one_bound b (reverse items) (number_of old) (number_of new) t h (λ x. u x ∙ ap (λ n. cond (same_variable (variable_of_key b.name) x) (Some n) (number_of old x)) (sym (length_reverse items))))

pub last_forgotten : (items items' : List Binding) (b : Binding) (old new : Table) → IsPlaced items' old → items' ≡ items ++ b ∷ [] → ((x : Variable) → number_of new x ≡ cond (same_variable (variable_of_key b.name) x) b.hidden (number_of old x)) → IsPlaced items new
last_forgotten items items' b old new t e u =
    one_forgotten b (reverse items) (number_of old) (number_of new) (subst (λ (ys : List Binding). IsTable ys (number_of old)) (ap reverse e ∙ reverse-append items (b ∷ [])) t) u

-- the last has a place
pub last_placed : (items items' : List Binding) (b : Binding) (table : Table) → IsPlaced items' table → items' ≡ items ++ b ∷ [] → ¬ (number_of table (variable_of_key b.name) ≡ None)
last_placed items items' b table t e n =
    let k = (subst (λ (ys : List Binding). IsTable ys (number_of table)) (ap reverse e ∙ reverse-append items (b ∷ [])) t).0 in let m : Some (length (reverse items)) ≡ None = sym k ∙ n in cc

pub kept_same : (items items' : List Binding) (old new : Table) → IsPlaced items old → items ≡ items' → ((x : Variable) → number_of new x ≡ number_of old x) → IsPlaced items' new
kept_same items items' old new t e u = subst (λ (ys : List Binding). IsPlaced ys new) e (same_table (reverse items) (number_of old) (number_of new) (λ x. sym (u x)) t)

pub none_assumed : (items : List Binding) (table : Table) (x : Variable) (es : List Assumed) → IsPlaced items table → entries_of items ≡ es → number_of table x ≡ None → ¬ (IsOneOf (identifier x) (assumed_names es))
none_assumed items table x es t v e = subst (λ (zs : List Assumed). ¬ (IsOneOf (identifier x) (assumed_names zs))) (ap entries_of (reverse-reverse items) ∙ v) (no_place (reverse items) (number_of table) x t e)

pub is_inside : (items : List Binding) (table : Table) (x : Variable) (p : ℕ) → IsPlaced items table → number_of table x ≡ Some p → p < length items
is_inside items table x p t e = let k = place_inside (reverse items) (number_of table) x p t e in let n = length_reverse items in omega (arith, k, n)

pub is_assumed : (items : List Binding) (table : Table) (x : Variable) (p : ℕ) (d : Binding) (es : List Assumed) → IsPlaced items table → entries_of items ≡ es → number_of table x ≡ Some p → slice_get items p ≡ Some d → IsSchemeOf (identifier x) (record { quantified = d.quantified; body = type_in d.body }) es
is_assumed items table x p d es t v e g =
    subst (λ (zs : List Assumed). IsSchemeOf (identifier x) (record { quantified = d.quantified; body = type_in d.body }) zs) (ap entries_of (reverse-reverse items) ∙ v)
    (place_found (reverse items) (number_of table) x p d t e (subst (λ (ys : List Binding). slice_get ys p ≡ Some d) (sym (reverse-reverse items)) g))

-- Variables of patterns

variables_push : (items items' : List KeptVariable) (v : KeptVariable) → items' ≡ items ++ v ∷ [] → variables_of items' ≡ variable_of v ∷ variables_of items
variables_push items items' v e = stack_push variable_of items items' v [] e

another : (v : KeptVariable) (x : Variable) (vs : List PatternVariable) → same_variable (variable_of_key v.name) x ≡ false → ¬ (IsOneOf (identifier x) (names_of vs)) → ¬ (IsOneOf (identifier x) (names_of (variable_of v ∷ vs)))
another v x vs s absent o = ⊎_elim (λ k. true≢false (sym (subst (λ z. same_variable z x ≡ true) (identifier_injective x (variable_of_key v.name) k) (same_variable-refl x)) ∙ s)) absent o

place_kept : (items items' : List KeptVariable) (v : KeptVariable) (x : Variable) (p : ℕ) → items' ≡ items ++ v ∷ [] → IsPlaceOf items x p → IsPlaceOf items' x p
place_kept items items' v x p e r = (r.0, (ap (λ (ys : List KeptVariable). slice_get ys p) e ∙ get-push_old items v r.0 p r.1.0, r.1.1))

-- one of the first few
pub few_kept : (items items' : List KeptVariable) (v : KeptVariable) (table : Table) → AreNoted items table → items' ≡ items ++ v ∷ [] → length items < few → AreNoted items' table
few_kept items items' v table t e short = record {
  some = λ x p h. place_kept items items' v x p e (t.some x p h);
  none = λ x h o. subst (λ (ys : List KeptVariable). IsOneOf (identifier x) (names_of (variables_of ys))) (drop_all few items' (let n : length items' ≡ length (items ++ v ∷ []) = ap length e in omega (arith, n, length-append items (v ∷ []), short))) o;
}

-- or another one
pub one_noted : (items items' : List KeptVariable) (v : KeptVariable) (old new : Table) → AreNoted items old → items' ≡ items ++ v ∷ [] → few ≤ length items
    → ((x : Variable) → number_of new x ≡ cond (same_variable (variable_of_key v.name) x) (Some (length items)) (number_of old x)) → AreNoted items' new
one_noted items items' v old new t e many u = record {
  some = λ x p h. ⊎_elim (found_same x p h) (found_other x p h) (differ (variable_of_key v.name) x);
  none = λ x h o. ⊎_elim (none_same x h) (none_other x h o) (differ (variable_of_key v.name) x);
}
  where
    found_same : (x : Variable) (p : ℕ) → number_of new x ≡ Some p → variable_of_key v.name ≡ x → IsPlaceOf items' x p
    found_same x p h s =
        let at : number_of new x ≡ Some (length items) = u x ∙ ap (λ c. cond c (Some (length items)) (number_of old x)) (subst (λ z. same_variable (variable_of_key v.name) z ≡ true) s (same_variable-refl (variable_of_key v.name))) in
        let k : length items ≡ p = some_injective (sym at ∙ h) in
        (v, (ap (λ (ys : List KeptVariable). slice_get ys p) e ∙ (ap (λ n. slice_get (items ++ v ∷ []) n) (sym k) ∙ get-push_new items v), s))

    found_other : (x : Variable) (p : ℕ) → number_of new x ≡ Some p → same_variable (variable_of_key v.name) x ≡ false → IsPlaceOf items' x p
    found_other x p h s = place_kept items items' v x p e (t.some x p (sym (u x ∙ ap (λ c. cond c (Some (length items)) (number_of old x)) s) ∙ h))

    none_same : (x : Variable) → number_of new x ≡ None → variable_of_key v.name ≡ x → ⊥
    none_same x h s =
        let at : number_of new x ≡ Some (length items) = u x ∙ ap (λ c. cond c (Some (length items)) (number_of old x)) (subst (λ z. same_variable (variable_of_key v.name) z ≡ true) s (same_variable-refl (variable_of_key v.name))) in
        let k : Some (length items) ≡ None = sym at ∙ h in cc

    none_other : (x : Variable) → number_of new x ≡ None → IsOneOf (identifier x) (names_of (variables_of (drop few items'))) → same_variable (variable_of_key v.name) x ≡ false → ⊥
    none_other x h o s = another v x (variables_of (drop few items)) s (t.none x (sym (u x ∙ ap (λ c. cond c (Some (length items)) (number_of old x)) s) ∙ h))
        (subst (λ vs. IsOneOf (identifier x) (names_of vs)) (variables_push (drop few items) (drop few items') v (ap (drop few) e ∙ drop-append-le few items (v ∷ []) many)) o)

pub noted_same : (items items' : List KeptVariable) (old new : Table) → AreNoted items old → items ≡ items' → ((x : Variable) → number_of new x ≡ number_of old x) → AreNoted items' new
noted_same items items' old new t e u = subst (λ (ys : List KeptVariable). AreNoted ys new) e (record {
  some = λ x p h. t.some x p (sym (u x) ∙ h);
  none = λ x h. t.none x (sym (u x) ∙ h);
})

get_is_type : (items : List KeptVariable) (p : ℕ) (v : KeptVariable) (vs : List PatternVariable) → slice_get items p ≡ Some v → IsTypeOf (identifier (variable_of_key v.name)) (type_of v.ty) (stack variable_of items vs)
get_is_type [] p v vs e = cc
get_is_type (w ∷ items) zero v vs e = under items (variable_of w ∷ vs) (let k = some_injective e in inl (ap (λ z. identifier (variable_of_key z.name)) k, ap (λ z. type_of z.ty) k))
  where
    under : (xs : List KeptVariable) (us : List PatternVariable) → IsTypeOf (identifier (variable_of_key v.name)) (type_of v.ty) us → IsTypeOf (identifier (variable_of_key v.name)) (type_of v.ty) (stack variable_of xs us)
    under [] us h = h
    under (x ∷ xs) us h = under xs (variable_of x ∷ us) (inr h)
get_is_type (w ∷ items) (suc p) v vs e = get_is_type items p v (variable_of w ∷ vs) e

get_inside : {A : Type 0} (xs : List A) (p : ℕ) (v : A) → slice_get xs p ≡ Some v → p < length xs
get_inside [] p v e = cc
get_inside (x ∷ xs) zero v e = omega arith
get_inside (x ∷ xs) (suc p) v e = let k = get_inside xs p v e in omega (arith, k)

pub place_is_inside : (items : List KeptVariable) (x : Variable) (p : ℕ) → IsPlaceOf items x p → p < length items
place_is_inside items x p r = get_inside items p r.0 r.1.0

pub type_at_place : (items : List KeptVariable) (x : Variable) (p : ℕ) (d : KeptVariable) → IsPlaceOf items x p → slice_get items p ≡ Some d → IsTypeOf (identifier x) (type_of d.ty) (variables_of items)
type_at_place items x p d r g =
    let is : r.0 ≡ d = some_injective (sym r.1.0 ∙ g) in
    subst (λ (z : KeptVariable). IsTypeOf (identifier x) (type_of z.ty) (variables_of items)) is (subst (λ (y : Variable). IsTypeOf (identifier y) (type_of r.0.ty) (variables_of items)) r.1.1 (get_is_type items p r.0 [] r.1.0))

-- the first few are looked through
pub none_more : (items : List KeptVariable) (i : ℕ) (d : KeptVariable) (x : Variable) → i < length items → d ≡ get_or items i d → ¬ (IsOneOf (identifier x) (names_of (variables_of (take i items)))) → same_variable (variable_of_key d.name) x ≡ false
    → ¬ (IsOneOf (identifier x) (names_of (variables_of (take (i + 1) items))))
none_more items i d x h e absent s o = another d x (variables_of (take i items)) s absent (subst (λ vs. IsOneOf (identifier x) (names_of vs)) (stack_one_more variable_of items i d h e) o)

pub none_of_few : (items : List KeptVariable) (i count : ℕ) (x : Variable) → count ≡ min few (length items) → i ≤ count → count ≤ i → ¬ (IsOneOf (identifier x) (names_of (variables_of (take i items)))) → ¬ (IsOneOf (identifier x) (names_of (variables_of (take few items))))
none_of_few items i count x e below above = let k : i ≡ count = omega (arith, below, above) in
    subst (λ (ys : List KeptVariable). ¬ (IsOneOf (identifier x) (names_of (variables_of ys)))) (ap (λ n. take n items) (k ∙ e) ∙ take_min few items)

either_named : (x : Identifier) (vs ws : List PatternVariable) → IsOneOf x (names_of (vs ++ ws)) → IsOneOf x (names_of vs) ⊎ IsOneOf x (names_of ws)
either_named x [] ws o = inr o
either_named x (v ∷ vs) ws (inl e) = inl (inl e)
either_named x (v ∷ vs) ws (inr o) = ⊎_elim (λ h. inl (inr h)) inr (either_named x vs ws o)

-- a name that is neither among the first few nor in the table is no variable's
pub none_kept : (items : List KeptVariable) (table : Table) (x : Variable) (vs : List PatternVariable) → AreNoted items table → variables_of items ≡ vs → ¬ (IsOneOf (identifier x) (names_of (variables_of (take few items)))) → number_of table x ≡ None
    → ¬ (IsOneOf (identifier x) (names_of vs))
none_kept items table x vs t v absent e o =
    ⊎_elim (t.none x e) absent (either_named (identifier x) (variables_of (drop few items)) (variables_of (take few items)) (subst (λ ws. IsOneOf (identifier x) (names_of ws)) (sym v ∙ parts) o))
  where
    parts : variables_of items ≡ variables_of (drop few items) ++ variables_of (take few items)
    parts = ap variables_of (sym (take-append-drop few items)) ∙ (stack_append variable_of (take few items) (drop few items) [] ∙ stack_over variable_of (drop few items) (variables_of (take few items)))

pub none_of_all : (items : List KeptVariable) (x : Variable) (vs : List PatternVariable) → length items ≤ few → variables_of items ≡ vs → ¬ (IsOneOf (identifier x) (names_of (variables_of (take few items)))) → ¬ (IsOneOf (identifier x) (names_of vs))
none_of_all items x vs short v absent o = absent (subst (λ ws. IsOneOf (identifier x) (names_of ws)) (sym v ∙ ap variables_of (sym (take_all few items short))) o)
