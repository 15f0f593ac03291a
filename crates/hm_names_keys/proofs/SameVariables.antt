-- The test of keys is that of variables; what a table has after a change.
use Rattle.std.proofs.Common.{◌≡◌, ℕ, ◌&&◌, Bool, true, false, cond, List, Option, Some, None, ◌⊎◌, inl, inr, refl, ap, sym, ◌∙◌, bytes_eq, option_map}
use Rattle.std.proofs.lemmas.Bool.{cases_Bool, both_ways}
use Rattle.std.proofs.lemmas.Slice.Eq.{bytes_eq-Decides}
use Rattle.hm_names_keys.specs.Variables.{Variable}
use Rattle.hm_names_keys.specs.declared.lent_names.LentName.{LentName}
use Rattle.hm_names_keys.specs.contracts.lent_names.LentNamePartialEq as LentNamePartialEq
use Rattle.indexmap.specs.IndexMap.{get_by}
use Rattle.std.specs.Borrow.{Bor}
use mathlib.Core.Path.{fun_ext}
use Rattle.hm_names_keys.specs.Keys.{Table, number_of, same_qualifier, same_variable, variable_of_key}

pub same_qualifier-is : (p q : Option (List ℕ)) → same_qualifier p q ≡ true → p ≡ q
same_qualifier-is None None e = refl
same_qualifier-is None (Some y) e = absurd (both_ways false refl e)
same_qualifier-is (Some x) None e = absurd (both_ways false refl e)
same_qualifier-is (Some x) (Some y) e = ap Some ((bytes_eq-Decides x y).0 e)

pub same_qualifier-refl : (p : Option (List ℕ)) → same_qualifier p p ≡ true
same_qualifier-refl None = refl
same_qualifier-refl (Some x) = (bytes_eq-Decides x x).1 refl

both_true : (a b : Bool) → (a && b) ≡ true → (a ≡ true) × (b ≡ true)
both_true true b e = (refl, e)
both_true false b e = absurd (both_ways false refl e)

and_true : (a b : Bool) → a ≡ true → b ≡ true → (a && b) ≡ true
and_true true b e f = f
and_true false b e f = absurd (both_ways false refl e)

pub same_variable-is : (x y : Variable) → same_variable x y ≡ true → x ≡ y
same_variable-is x y e =
    let h = both_true (same_qualifier x.qualifier y.qualifier) (bytes_eq x.text y.text) e in
    let p = same_qualifier-is x.qualifier y.qualifier h.0 in
    let q = (bytes_eq-Decides x.text y.text).0 h.1 in
    λ i. record { qualifier = p i; text = q i }

pub same_variable-refl : (x : Variable) → same_variable x x ≡ true
same_variable-refl x = and_true (same_qualifier x.qualifier x.qualifier) (bytes_eq x.text x.text) (same_qualifier-refl x.qualifier) ((bytes_eq-Decides x.text x.text).1 refl)

pub differ : (x y : Variable) → (x ≡ y) ⊎ (same_variable x y ≡ false)
differ x y = elim (cases_Bool (same_variable x y)) [ inl e ↦ inl (same_variable-is x y e) | inr e ↦ inr e ]

-- the derived equality of keys
key_eq_parts : (p : Option (Bor (List ℕ))) (x : Bor (List ℕ)) (q : Option (Bor (List ℕ))) (y : Bor (List ℕ)) →
    (LentNamePartialEq.TheImpl.eq-value).it (record { qualifier = p; text = x }) (record { qualifier = q; text = y }) ≡ same_variable (variable_of_key (record { qualifier = p; text = x })) (variable_of_key (record { qualifier = q; text = y }))
key_eq_parts None x None y = refl
key_eq_parts None x (Some q) y = refl
key_eq_parts (Some p) x None y = refl
key_eq_parts (Some p) x (Some q) y = refl

pub key_eq : (a b : LentName) → (LentNamePartialEq.TheImpl.eq-value).it a b ≡ same_variable (variable_of_key a) (variable_of_key b)
key_eq a b = key_eq_parts a.qualifier a.text b.qualifier b.text

-- what a look-up by a key tells
pub look_up : (table : Table) (a : LentName) (x : Variable) → variable_of_key a ≡ x → get_by ((LentNamePartialEq.TheImpl.eq-value).it a) table ≡ number_of table x
look_up table a x e = ap (λ test. get_by test table) (fun_ext (λ b. key_eq a b ∙ ap (λ z. same_variable z (variable_of_key b)) e))

-- a key of a variable
abbrev key_for : Variable → LentName
key_for y = record { qualifier = option_map (λ t. record { ref_ptr = (0, 0); now = t }) y.qualifier; text = record { ref_ptr = (0, 0); now = y.text } }

key_for_parts : (p : Option (List ℕ)) (t : List ℕ) → variable_of_key (key_for (record { qualifier = p; text = t })) ≡ record { qualifier = p; text = t }
key_for_parts None t = refl
key_for_parts (Some q) t = refl

key_for-is : (y : Variable) → variable_of_key (key_for y) ≡ y
key_for-is y = key_for_parts y.qualifier y.text

-- and a change of what is kept under a key
pub updated : (old new : Table) (a : LentName) (x : Variable) (w : Option ℕ) → variable_of_key a ≡ x →
    ((q : LentName) → get_by ((LentNamePartialEq.TheImpl.eq-value).it q) new ≡ cond ((LentNamePartialEq.TheImpl.eq-value).it a q) w (get_by ((LentNamePartialEq.TheImpl.eq-value).it q) old)) →
    (y : Variable) → number_of new y ≡ cond (same_variable x y) w (number_of old y)
updated old new a x w e u y =
    sym (look_up new (key_for y) y (key_for-is y))
    ∙ (u (key_for y)
    ∙ (ap (λ b. cond b w (get_by ((LentNamePartialEq.TheImpl.eq-value).it (key_for y)) old)) (key_eq a (key_for y) ∙ (ap (λ z. same_variable z (variable_of_key (key_for y))) e ∙ ap (same_variable x) (key_for-is y)))
    ∙ ap (cond (same_variable x y) w) (look_up old (key_for y) y (key_for-is y))))
