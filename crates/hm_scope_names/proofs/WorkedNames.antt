-- Worked examples.
use Rattle.std.proofs.Common.{◌≡◌, ℕ, false, List, [], ◌∷◌, Option, None, Some, ◌⊎◌, inl, inr, ⊎_elim, Contains, codes, refl, sym, ap, subst, ◌∙◌, arith}
use Rattle.hm_names.specs.Bindings.{Pair}
use Rattle.hm_names.specs.Entities.{Exports, a_value, named}
use Rattle.hm_names.specs.Scope.{Brings, InScope, added, declared, every, hiding, import_prelude, imported, known_as, only, written}
use Rattle.hm_names.specs.Worked.{a_module, imports, with_x, x}
use Rattle.hm_names.specs.declared.namespace.Namespace.TheVariants.{Values}
use Rattle.hm_names.proofs.Members.{cases, first, none_in}
use Rattle.hm_scope_names.specs.Meant.{HaveOneName}
use Rattle.hm_scope_names.specs.Worked.{ApartRow, MeantRow, importing, only_x, x_of_b}
use Rattle.hm_syntax.specs.declared.ast.Import.{Import}
use Rattle.hm_syntax.specs.declared.ast.ImportList.TheVariants as list
use Rattle.hm_types.specs.declared.Entity.{Entity}
use Rattle.hm_types.specs.declared.entries.ValueEntry.{ValueEntry}
use Rattle.hm_types.specs.Interfaces.{Exports as Interface}

one_name : (p : Pair) → HaveOneName p p
one_name p = record { space = refl; qualifier = refl; text = refl }

other_name : ¬ (HaveOneName (x_of_b None) (x_of_b (Some (codes "B"))))
other_name h = let z : None ≡ Some (codes "B") = h.qualifier in absurd (cc)

pub worked_apart : ApartRow
worked_apart = record {
  apart = (λ q c. elim (cases _ [] q c) [ inl is ↦ subst (λ (z : Pair). ¬ (HaveOneName (x_of_b None) z)) (sym is) other_name | inr none ↦ absurd (none_in q none) ], (λ q c. absurd (none_in q c), tt));
  not_twice = λ h. h.0 (x_of_b None) (first (x_of_b None) []) (one_name (x_of_b None));
}

first_letter : List ℕ → ℕ
first_letter [] = 0
first_letter (letter ∷ text) = letter

letter_in : Option (List ℕ) → ℕ
letter_in None = 0
letter_in (Some text) = first_letter text

apart : (j k : ℕ) → j ≡ 66 → k ≡ 65 → j ≡ k → ⊥
apart j k a b e = omega (arith, a, b, e)

not_prelude : (j k : ℕ) → j ≡ 66 → k ≡ 80 → j ≡ k → ⊥
not_prelude j k a b e = omega (arith, a, b, e)

abbrev the_import : Import
the_import = imports false (codes "B") list.Every

export_of : (d : Entity) → Exports (with_x (codes "B")) x d Values → d ≡ named (codes "B") x
export_of d (a_value {r} c n e) = elim (cases _ [] r c) [ inl is ↦ sym e ∙ ap (λ (v : ValueEntry). v.entity) is | inr none ↦ absurd (none_in r none) ]

brings_of : (f : Interface) (i : Import) (d : Entity) → f ≡ with_x (codes "B") → i ≡ the_import → Brings f i Values x d → d ≡ named (codes "B") x
brings_of f i d is same (every l exported) = export_of d (subst (λ (g : Interface). Exports g x d Values) is exported)
brings_of f i d is same (only {is = js} l c s exported) = let z : list.Every ≡ list.Only js = sym (ap (λ (j : Import). j.list) same) ∙ l in absurd (cc)
brings_of f i d is same (hiding {is = js} l c exported) = let z : list.Every ≡ list.Hiding js = sym (ap (λ (j : Import). j.list) same) ∙ l in absurd (cc)

the_interface : (f : Interface) → Contains only_x f → f ≡ with_x (codes "B")
the_interface f c = elim (cases _ [] f c) [ inl is ↦ is | inr none ↦ absurd (none_in f none) ]

no_prelude : (f : Interface) (i : Import) → Contains only_x f → i ≡ import_prelude → f.name ≡ i.name.text → ⊥
unfolding first_letter
no_prelude f i c e is = not_prelude _ _ refl refl (ap first_letter (sym (ap (λ (g : Interface). g.name) (the_interface f c)) ∙ (is ∙ ap (λ (j : Import). j.name.text) e)))

in_scope_of : (q : Option (List ℕ)) (d : Entity) → InScope importing only_x Values q x d → (d ≡ named (codes "B") x) × ((q ≡ None) ⊎ (q ≡ Some (codes "B")))
in_scope_of q d (declared ds p e) = absurd (none_in ds.declaration ds.stands)
in_scope_of q d (imported {i} {f} (written c) stands is brings at) =
    let same : i ≡ the_import = elim (cases _ [] i c) [ inl e ↦ e | inr none ↦ absurd (none_in i none) ] in
    (brings_of f i d (the_interface f stands) same brings, ⊎_elim (λ h. inl h.0) (λ h. inr (h ∙ ap (λ (j : Import). Some (known_as j)) same)) at)
in_scope_of q d (imported {i} {f} (added none e) stands is brings at) = absurd (no_prelude f i stands e is)

has_x : Brings (with_x (codes "B")) the_import Values x (named (codes "B") x)
has_x = every refl (a_value (first _ []) refl refl)

not_a : (q : Option (List ℕ)) → q ≡ Some (codes "A") → (q ≡ None) ⊎ (q ≡ Some (codes "B")) → ⊥
unfolding first_letter letter_in
not_a q is (inl none) = let z : None ≡ Some (codes "A") = sym none ∙ is in absurd (cc)
not_a q is (inr b) = apart _ _ refl refl (ap letter_in (sym b ∙ is))

no_imports : (q : Option (List ℕ)) (d : Entity) → InScope (a_module []) only_x Values q x d → ⊥
no_imports q d (declared ds p e) = none_in ds.declaration ds.stands
no_imports q d (imported {i} {f} (written c) stands is brings at) = none_in i c
no_imports q d (imported {i} {f} (added none e) stands is brings at) = no_prelude f i stands e is

pub worked_meanings : MeantRow
worked_meanings = record {
  bare = record { in_scope = imported (written (first the_import [])) (first _ []) refl has_x (inl (refl, refl)); alone = λ d h. (in_scope_of None d h).0 };
  qualified = record { in_scope = imported (written (first the_import [])) (first _ []) refl has_x (inr refl); alone = λ d h. (in_scope_of (Some (codes "B")) d h).0 };
  not_of_a = λ h. not_a (Some (codes "A")) refl (in_scope_of (Some (codes "A")) (named (codes "B") x) h.in_scope).1;
  not_without = λ h. no_imports None (named (codes "B") x) h.in_scope;
}
