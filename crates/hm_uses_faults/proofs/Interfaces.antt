-- Each import of a module has one interface.
use Rattle.std.proofs.Common.{◌≡◌, ℕ, Bool, true, false, cond, List, [], ◌∷◌, map, ◌⊎◌, inl, inr, ⊎_elim, refl, sym, ap, ◌∙◌, subst, IsTrue, ◌↔◌}
use Rattle.std.specs.List.{Contains}
use Rattle.hm_types.specs.Interfaces.{Exports as Interface}
use Rattle.hm_syntax.specs.declared.ast.Module.{Module}
use Rattle.hm_syntax.specs.declared.ast.Import.{Import}
use Rattle.hm_names.specs.Imports.{AreImportsOf, imported_after}
use Rattle.hm_names.specs.Scope.{prelude_name}
use Rattle.hm_names.specs.Texts.{is_text_among}
use Rattle.hm_names.proofs.DeclaredPairs.{map_contains}
use Rattle.hm_names.proofs.Members.{none_in, cases, first, first_by, rest, text_discrete}
use Rattle.hm_names.proofs.Standing.{among_decides}

-- exactly one of the interfaces has the name
pub record IsOneNamed (fs : List Interface) (x : List ℕ) : Type 0 where
  pub interface : Interface
  pub stands : Contains fs interface
  pub named : interface.name ≡ x
  pub alone : (f : Interface) → Contains fs f → f.name ≡ x → f ≡ interface

abbrev NamesOf : List Interface → List (List ℕ) → Type 0
NamesOf fs xs = map (λ (f : Interface). f.name) fs ≡ xs

clash : (x : List ℕ) (seen : List (List ℕ)) → is_text_among x seen ≡ true → is_text_among x seen ≡ false → ⊥
clash x seen a b = let z : true ≡ false = sym a ∙ b in cc

among : (x : List ℕ) (seen : List (List ℕ)) → Contains seen x → is_text_among x seen ≡ true
among x seen c = (among_decides x seen).1 c

-- an interface with the name of the first, before the others, of which none has it
extended : (f : Interface) (fs : List Interface) (x : List ℕ) → f.name ≡ x → ¬ (Contains (map (λ (g : Interface). g.name) fs) x) → IsOneNamed (f ∷ fs) x
extended f fs x e h = record {
  interface = f;
  stands = first f fs;
  named = e;
  alone = λ g c n. ⊎_elim (λ s. s) (λ o. absurd (h (subst (λ y. Contains (map (λ (k : Interface). k.name) fs) y) n (map_contains (λ (k : Interface). k.name) fs g o)))) (cases f fs g c);
}

later : (f : Interface) (fs : List Interface) (x : List ℕ) → ¬ (f.name ≡ x) → IsOneNamed fs x → IsOneNamed (f ∷ fs) x
later f fs x e h = record {
  interface = h.interface;
  stands = rest f fs h.interface h.stands;
  named = h.named;
  alone = λ g c n. ⊎_elim (λ s. absurd (e (subst (λ (k : Interface). k.name ≡ x) s n))) (λ o. h.alone g o n) (cases f fs g c);
}

-- none of the names was seen before
unseen : (seen : List (List ℕ)) (is : List Import) (x : List ℕ) → is_text_among x seen ≡ true → ¬ (Contains (imported_after seen is) x)
unseen seen [] x t = none_in x
unseen seen (i ∷ is) x t = go (is_text_among i.name.text seen) refl (unseen seen is x t) (unseen (i.name.text ∷ seen) is x (among x (i.name.text ∷ seen) (rest i.name.text seen x ((among_decides x seen).0 t))))
  where
    go : (b : Bool) → is_text_among i.name.text seen ≡ b → ¬ (Contains (imported_after seen is) x) → ¬ (Contains (imported_after (i.name.text ∷ seen) is) x) →
        ¬ (Contains (cond b (imported_after seen is) (i.name.text ∷ imported_after (i.name.text ∷ seen) is)) x)
    go true e h k = h
    go false e h k = λ c. ⊎_elim (λ s. clash x seen t (ap (λ y. is_text_among y seen) s ∙ e)) k (cases i.name.text (imported_after (i.name.text ∷ seen) is) x c)

not_among : (x y : List ℕ) (seen : List (List ℕ)) → ¬ (y ≡ x) → is_text_among x seen ≡ false → is_text_among x (y ∷ seen) ≡ false
not_among x y seen e u = go (is_text_among x (y ∷ seen)) (among_decides x (y ∷ seen))
  where
    go : (b : Bool) → IsTrue b ↔ Contains (y ∷ seen) x → b ≡ false
    go true d = absurd (⊎_elim (λ s. e (sym s)) (λ o. clash x seen (among x seen o) u) (cases y seen x (d.0 refl)))
    go false d = refl

abbrev tail_of : List (List ℕ) → List (List ℕ)
tail_of [] = []
tail_of (x ∷ xs) = xs

abbrev head_of : List ℕ → List (List ℕ) → List ℕ
head_of y [] = y
head_of y (x ∷ xs) = x

-- the first import's module, and those after it
new : (seen : List (List ℕ)) (j : Import) (js : List Import) (i : Import) → ((i ≡ j) ⊎ Contains js i) →
    ((gs : List Interface) → NamesOf gs (imported_after (j.name.text ∷ seen) js) → Contains js i → is_text_among i.name.text (j.name.text ∷ seen) ≡ false → IsOneNamed gs i.name.text) →
    (fs : List Interface) → NamesOf fs (j.name.text ∷ imported_after (j.name.text ∷ seen) js) → is_text_among i.name.text seen ≡ false → IsOneNamed fs i.name.text
new seen j js i o more [] n u = absurd (let z : [] ≡ j.name.text ∷ imported_after (j.name.text ∷ seen) js = n in cc)
new seen j js i o more (g ∷ gs) n u = go (text_discrete j.name.text i.name.text) o
  where
    after : NamesOf gs (imported_after (j.name.text ∷ seen) js)
    after = ap tail_of n

    named : g.name ≡ j.name.text
    named = ap (head_of g.name) n

    here : j.name.text ≡ i.name.text → IsOneNamed (g ∷ gs) i.name.text
    here e = extended g gs i.name.text (named ∙ e) (λ c. unseen (j.name.text ∷ seen) js i.name.text (among i.name.text (j.name.text ∷ seen) (first_by j.name.text seen i.name.text (sym e))) (subst (λ l. Contains l i.name.text) after c))

    go : Dec (j.name.text ≡ i.name.text) → ((i ≡ j) ⊎ Contains js i) → IsOneNamed (g ∷ gs) i.name.text
    go (yes e) p = here e
    go (no e) (inl s) = absurd (e (ap (λ (k : Import). k.name.text) (sym s)))
    go (no e) (inr c) = later g gs i.name.text (λ q. e (sym named ∙ q)) (more gs after c (not_among i.name.text j.name.text seen e u))

one_of : (seen : List (List ℕ)) (is : List Import) (fs : List Interface) → NamesOf fs (imported_after seen is) → (i : Import) → Contains is i → is_text_among i.name.text seen ≡ false → IsOneNamed fs i.name.text
one_of seen [] fs names i c u = absurd (none_in i c)
one_of seen (j ∷ js) fs names i c u = go (λ o. one_of seen js fs o i) (λ gs after o v. one_of (j.name.text ∷ seen) js gs after i o v) (is_text_among j.name.text seen) refl names (cases j js i c)
  where
    go : (NamesOf fs (imported_after seen js) → Contains js i → is_text_among i.name.text seen ≡ false → IsOneNamed fs i.name.text) →
        ((gs : List Interface) → NamesOf gs (imported_after (j.name.text ∷ seen) js) → Contains js i → is_text_among i.name.text (j.name.text ∷ seen) ≡ false → IsOneNamed gs i.name.text) →
        (b : Bool) → is_text_among j.name.text seen ≡ b → NamesOf fs (cond b (imported_after seen js) (j.name.text ∷ imported_after (j.name.text ∷ seen) js)) → ((i ≡ j) ⊎ Contains js i) → IsOneNamed fs i.name.text
    go old more true e n (inl s) = absurd (clash j.name.text seen e (ap (λ (k : Import). is_text_among k.name.text seen) (sym s) ∙ u))
    go old more true e n (inr o) = old n o u
    go old more false e n o = new seen j js i o more fs n u

-- with Prelude's interface and those of the imports
pub has_interface : (m : Module) (p : Interface) (fs : List Interface) → p.name ≡ prelude_name → AreImportsOf m fs → (i : Import) → Contains m.header.imports i → IsOneNamed (p ∷ fs) i.name.text
has_interface m p fs e names i c = go (text_discrete prelude_name i.name.text)
  where
    go : Dec (prelude_name ≡ i.name.text) → IsOneNamed (p ∷ fs) i.name.text
    go (yes s) = extended p fs i.name.text (e ∙ s) (λ o. unseen (prelude_name ∷ []) m.header.imports i.name.text (among i.name.text (prelude_name ∷ []) (first_by prelude_name [] i.name.text (sym s))) (subst (λ l. Contains l i.name.text) names o))
    go (no s) = later p fs i.name.text (λ q. s (sym e ∙ q)) (one_of (prelude_name ∷ []) m.header.imports fs names i c (not_among i.name.text prelude_name [] s refl))
