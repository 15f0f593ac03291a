-- Tables that have the places of the first bindings.
use Rattle.std.proofs.Common.{◌≡◌, ℕ, zero, suc, ◌+◌, ◌<◌, ◌≤◌, ◌⊎◌, ⊎_elim, inl, inr, true, false, true≢false, cond, List, [], ◌∷◌, ◌++◌, length, get_or, set, take, drop, Option, None, Some, MatchOption, refl, sym, ap, ◌∙◌, subst, arith}
use Rattle.std.specs.List.{slice_get}
use Rattle.std.proofs.Math.Seq.{drop-cons}
use Rattle.std.proofs.lemmas.List.{length-append, take_all, take-append-drop, drop_all, length-take-le}
use Rattle.hm_typing.specs.Names.{Identifier, IsOneOf}
use Rattle.hm_names_keys.specs.Keys.{Table, number_of, same_variable, variable_of_key}
use Rattle.hm_names_keys.specs.Variables.{Variable, identifier}
use Rattle.hm_names_keys.proofs.Identifiers.{identifier_injective}
use Rattle.hm_names_keys.proofs.Pushed.{some_injective}
use Rattle.hm_names_keys.proofs.SameVariables.{same_variable-refl}
use Rattle.hm_infer_context.specs.declared.environment.Binding.{Binding}
use Rattle.hm_infer_context.specs.Environments.{Assumed, OpenScheme, IsSchemeOf, assumed_names}
use Rattle.hm_infer_context.specs.Kept.{stack, assumed_of, entries_of}
use Rattle.hm_infer_context.specs.Places.{IsPlaced, ArePlaced, IsLastPlace, IsInnermost}
use Rattle.hm_infer_context.proofs.Placed.{bound_last, is_assumed, is_inside, none_assumed}
use Rattle.hm_infer_context.proofs.Tables.{stack_append, stack_over}

-- Lists of assumptions in two parts

entries_parts : (items : List Binding) (n : ℕ) → entries_of items ≡ entries_of (drop n items) ++ entries_of (take n items)
entries_parts items n = ap entries_of (sym (take-append-drop n items)) ∙ (stack_append assumed_of (take n items) (drop n items) [] ∙ stack_over assumed_of (drop n items) (entries_of (take n items)))

either_assumed : (x : Identifier) (es fs : List Assumed) → IsOneOf x (assumed_names (es ++ fs)) → IsOneOf x (assumed_names es) ⊎ IsOneOf x (assumed_names fs)
either_assumed x [] fs o = inr o
either_assumed x (e ∷ es) fs (inl h) = inl (inl h)
either_assumed x (e ∷ es) fs (inr o) = ⊎_elim (λ h. inl (inr h)) inr (either_assumed x es fs o)

scheme_behind : (x : Identifier) (s : OpenScheme) (es fs : List Assumed) → ¬ (IsOneOf x (assumed_names es)) → IsSchemeOf x s fs → IsSchemeOf x s (es ++ fs)
scheme_behind x s [] fs n h = h
scheme_behind x s (e ∷ es) fs n h = inr ((λ k. n (inl (sym k))), scheme_behind x s es fs (λ o. n (inr o)) h)

-- The last bindings are searched

pub none_last : (items : List Binding) (x : Variable) → ¬ (IsOneOf (identifier x) (assumed_names (entries_of (drop (length items) items))))
none_last items x o = subst (λ bs. IsOneOf (identifier x) (assumed_names (entries_of bs))) (drop_all (length items) items (omega arith)) o

pub none_before : (items : List Binding) (place : ℕ) (d : Binding) (x : Variable) → place < length items → d ≡ get_or items place d → ¬ (IsOneOf (identifier x) (assumed_names (entries_of (drop (place + 1) items)))) → same_variable (variable_of_key d.name) x ≡ false →
    ¬ (IsOneOf (identifier x) (assumed_names (entries_of (drop place items))))
none_before items place d x h e absent s o =
    let n : place + 1 ≡ suc place = omega arith in
    let parts : drop place items ≡ d ∷ drop (place + 1) items = drop-cons items place d h ∙ (ap (λ z. z ∷ drop (suc place) items) (sym e) ∙ ap (λ k. d ∷ drop k items) (sym n)) in
    let whole : entries_of (drop place items) ≡ entries_of (drop (place + 1) items) ++ assumed_of d ∷ [] = ap entries_of parts ∙ stack_over assumed_of (drop (place + 1) items) (assumed_of d ∷ []) in
    ⊎_elim absent (λ k. ⊎_elim (λ i. true≢false (sym (subst (λ z. same_variable z x ≡ true) (identifier_injective x (variable_of_key d.name) i) (same_variable-refl x)) ∙ s)) (λ i. i) k)
    (either_assumed (identifier x) (entries_of (drop (place + 1) items)) (assumed_of d ∷ []) (subst (λ es. IsOneOf (identifier x) (assumed_names es)) whole o))

-- The innermost assumption

get_inside : (items : List Binding) (p : ℕ) (d : Binding) → slice_get items p ≡ Some d → p < length items
get_inside [] p d e = cc
get_inside (b ∷ items) zero d e = omega arith
get_inside (b ∷ items) (suc p) d e = let k = get_inside items p d e in omega (arith, k)

get_split : (items : List Binding) (p : ℕ) (d : Binding) → slice_get items p ≡ Some d → drop p items ≡ d ∷ drop (p + 1) items
get_split [] p d e = cc
get_split (b ∷ items) zero d e = ap (λ z. z ∷ items) (some_injective e)
get_split (b ∷ items) (suc p) d e = get_split items p d e ∙ ap (λ k. d ∷ drop k (b ∷ items)) (let z : suc (p + 1) ≡ suc p + 1 = omega arith in z)

pub last_is_innermost : (items : List Binding) (x : Variable) (p : ℕ) → IsLastPlace items x p → IsInnermost items x p
last_is_innermost items x p l = record {
  within = get_inside items p l.binding l.at;
  scheme = λ d e. subst (IsSchemeOf (identifier x) (assumed_of d).scheme) (sym whole)
      (scheme_behind (identifier x) (assumed_of d).scheme (entries_of (drop (p + 1) items)) (assumed_of l.binding ∷ entries_of (take p items)) l.last
      (inl (ap identifier l.named, ap (λ z. (assumed_of z).scheme) (some_injective (sym l.at ∙ e)))));
}
  where
    rest : entries_of (drop p items) ≡ entries_of (drop (p + 1) items) ++ assumed_of l.binding ∷ []
    rest = ap entries_of (get_split items p l.binding l.at) ∙ stack_over assumed_of (drop (p + 1) items) (assumed_of l.binding ∷ [])

    joined : (es fs : List Assumed) (e : Assumed) → (es ++ e ∷ []) ++ fs ≡ es ++ e ∷ fs
    joined [] fs e = refl
    joined (a ∷ es) fs e = ap (λ z. a ∷ z) (joined es fs e)

    whole : entries_of items ≡ entries_of (drop (p + 1) items) ++ assumed_of l.binding ∷ entries_of (take p items)
    whole = entries_parts items p ∙ (ap (λ z. z ++ entries_of (take p items)) rest ∙ joined (entries_of (drop (p + 1) items)) (entries_of (take p items)) (assumed_of l.binding))

get_taken : (items : List Binding) (n p : ℕ) → p < n → slice_get (take n items) p ≡ slice_get items p
get_taken items zero p h = absurd (omega arith)
get_taken [] (suc n) p h = refl
get_taken (b ∷ items) (suc n) zero h = refl
get_taken (b ∷ items) (suc n) (suc p) h = get_taken items n p (omega arith)

pub placed_is_innermost : (items : List Binding) (n : ℕ) (table : Table) (x : Variable) (p : ℕ) → ArePlaced items n table → ¬ (IsOneOf (identifier x) (assumed_names (entries_of (drop n items)))) → number_of table x ≡ Some p → IsInnermost items x p
placed_is_innermost items n table x p a absent e = record {
  within = (let w = a.within in omega (arith, inside, w));
  scheme = λ d g. subst (IsSchemeOf (identifier x) (assumed_of d).scheme) (sym (entries_parts items n))
      (scheme_behind (identifier x) (assumed_of d).scheme (entries_of (drop n items)) (entries_of (take n items)) absent
      (is_assumed (take n items) table x p d (entries_of (take n items)) a.first refl e (get_taken items n p inside ∙ g)));
}
  where
    inside : p < n
    inside = (let h = is_inside (take n items) table x p a.first e in let l = length-take-le n items a.within in omega (arith, h, l))

pub none_innermost : (items : List Binding) (n : ℕ) (table : Table) (x : Variable) → ArePlaced items n table → ¬ (IsOneOf (identifier x) (assumed_names (entries_of (drop n items)))) → number_of table x ≡ None → ¬ (IsOneOf (identifier x) (assumed_names (entries_of items)))
none_innermost items n table x a absent e o =
    ⊎_elim absent (none_assumed (take n items) table x (entries_of (take n items)) a.first refl e)
    (either_assumed (identifier x) (entries_of (drop n items)) (entries_of (take n items)) (subst (λ es. IsOneOf (identifier x) (assumed_names es)) (entries_parts items n) o))

pub either_place : (items : List Binding) (n : ℕ) (table : Table) (x : Variable) (o : Option ℕ) → ArePlaced items n table → ¬ (IsOneOf (identifier x) (assumed_names (entries_of (drop n items)))) → o ≡ number_of table x →
    MatchOption o (¬ (IsOneOf (identifier x) (assumed_names (entries_of items)))) (IsInnermost items x)
either_place items n table x (Some p) a absent e = placed_is_innermost items n table x p a absent (sym e)
either_place items n table x None a absent e = none_innermost items n table x a absent (sym e)

-- A place more

pub set_length : (items : List Binding) (i : ℕ) (b : Binding) → length (set items i b) ≡ length items
set_length [] i b = refl
set_length (c ∷ items) zero b = refl
set_length (c ∷ items) (suc i) b = ap suc (set_length items i b)

stack_set : (items : List Binding) (i : ℕ) (b d : Binding) (es : List Assumed) → i < length items → d ≡ get_or items i d → assumed_of b ≡ assumed_of d → stack assumed_of (set items i b) es ≡ stack assumed_of items es
stack_set [] i b d es h e f = absurd (omega arith)
stack_set (c ∷ items) zero b d es h e f = ap (λ z. stack assumed_of items (z ∷ es)) (f ∙ ap assumed_of e)
stack_set (c ∷ items) (suc i) b d es h e f = stack_set items i b d (assumed_of c ∷ es) (omega arith) e f

pub set_entries : (items items' : List Binding) (i : ℕ) (b d : Binding) → items' ≡ set items i b → i < length items → d ≡ get_or items i d → assumed_of b ≡ assumed_of d → entries_of items' ≡ entries_of items
set_entries items items' i b d g h e f = ap entries_of g ∙ stack_set items i b d [] h e f

taken_set : (items : List Binding) (i : ℕ) (b : Binding) → i < length items → take (i + 1) (set items i b) ≡ take i items ++ b ∷ []
taken_set [] i b h = absurd (omega arith)
taken_set (c ∷ items) zero b h = refl
taken_set (c ∷ items) (suc i) b h = ap (λ k. take k (c ∷ set items i b)) (let z : suc i + 1 ≡ suc (i + 1) = omega arith in z) ∙ ap (λ z. c ∷ z) (taken_set items i b (omega arith))

pub next_placed : (items items' : List Binding) (n : ℕ) (b : Binding) (old new : Table) → ArePlaced items n old → items' ≡ set items n b → length items' ≡ length items → n < length items → b.hidden ≡ number_of old (variable_of_key b.name) →
    ((x : Variable) → number_of new x ≡ cond (same_variable (variable_of_key b.name) x) (Some n) (number_of old x)) → ArePlaced items' (n + 1) new
next_placed items items' n b old new a e l h f u = record {
  within = omega (arith, l, h);
  first = bound_last (take n items) (take (n + 1) items') b old new a.first (ap (take (n + 1)) e ∙ taken_set items n b h) f (λ x. u x ∙ ap (λ k. cond (same_variable (variable_of_key b.name) x) (Some k) (number_of old x)) (sym (length-take-le n items (omega arith))));
}

-- A binding more

taken_front : (items rest : List Binding) (n : ℕ) → n ≤ length items → take n (items ++ rest) ≡ take n items
taken_front items rest zero h = refl
taken_front [] rest (suc n) h = absurd (omega arith)
taken_front (b ∷ items) rest (suc n) h = ap (λ z. b ∷ z) (taken_front items rest n (omega arith))

pub pushed_placed : (items items' : List Binding) (b : Binding) (n : ℕ) (table : Table) → items' ≡ items ++ b ∷ [] → ArePlaced items n table → ArePlaced items' n table
pushed_placed items items' b n table e a = subst (λ bs. ArePlaced bs n table) (sym e) (record {
  within = (let l = length-append items (b ∷ []) in let w = a.within in omega (arith, l, w));
  first = subst (λ bs. IsPlaced bs table) (sym (taken_front items (b ∷ []) n a.within)) a.first;
})

-- Bindings less

taken_twice : (items : List Binding) (n m : ℕ) → n ≤ m → take n (take m items) ≡ take n items
taken_twice items zero m h = refl
taken_twice items (suc n) zero h = absurd (omega arith)
taken_twice [] (suc n) (suc m) h = refl
taken_twice (b ∷ items) (suc n) (suc m) h = ap (λ z. b ∷ z) (taken_twice items n m (omega arith))

taken_length : (items : List Binding) (n m : ℕ) → n ≤ m → n ≤ length items → n ≤ length (take m items)
taken_length items zero m h k = omega arith
taken_length items (suc n) zero h k = absurd (omega arith)
taken_length [] (suc n) (suc m) h k = absurd (omega arith)
taken_length (b ∷ items) (suc n) (suc m) h k = let l = taken_length items n m (omega arith) (omega arith) in omega (arith, l)

pub cut_placed : (items items' : List Binding) (n m : ℕ) (table : Table) → items' ≡ take m items → n ≤ m → ArePlaced items n table → ArePlaced items' n table
cut_placed items items' n m table e h a = subst (λ bs. ArePlaced bs n table) (sym e) (record {
  within = taken_length items n m h a.within;
  first = subst (λ bs. IsPlaced bs table) (sym (taken_twice items n m h)) a.first;
})

-- all that is left has a place
pub all_placed : (items items' : List Binding) (n m : ℕ) (table : Table) → items' ≡ take m items → m ≡ n → ArePlaced items n table → IsPlaced items' table
all_placed items items' n m table e f a = subst (λ bs. IsPlaced bs table) (sym (e ∙ ap (λ k. take k items) f)) a.first

pub forgotten_placed : (items items' : List Binding) (n : ℕ) (table : Table) → items' ≡ take n items → n ≤ length items → IsPlaced items' table → ArePlaced items' n table
forgotten_placed items items' n table e h a =
    let l : length items' ≡ n = ap length e ∙ length-take-le n items h in
    record {
      within = omega (arith, l);
      first = subst (λ bs. IsPlaced bs table) (sym (take_all n items' (omega (arith, l)))) a;
    }

pub cut_twice : (items middle last : List Binding) (n m : ℕ) → middle ≡ take m items → last ≡ take n middle → n ≤ m → last ≡ take n items
cut_twice items middle last n m e f h = f ∙ (ap (take n) e ∙ taken_twice items n m h)
