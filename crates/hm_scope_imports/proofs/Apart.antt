-- One interface of each name: what it gives is what all interfaces of that name give.
use Rattle.std.proofs.Common.{◌≡◌, ℕ, zero, suc, Bool, true, false, cond, List, [], ◌∷◌, map, Contains, Bor, ◌⊎◌, inl, inr, ⊎_elim, refl, sym, ap, ◌∙◌, subst, arith}
use Rattle.hm_types.specs.Interfaces.{Exports as Interface}
use Rattle.hm_syntax.specs.declared.ast.Import.{Import}
use Rattle.hm_syntax.specs.declared.ast.Module.{Module}
use Rattle.hm_names.specs.declared.faults.Fault.{Fault}
use Rattle.hm_names.specs.Bindings.{Pair, Adds, IsBroughtPair}
use Rattle.hm_names.specs.Imports.{AreImportsOf, imported_after}
use Rattle.hm_names.specs.Scope.{prelude_name}
use Rattle.hm_names.specs.Texts.{is_text_among, same_text}
use Rattle.hm_names.proofs.AddedPairs.{adds_like, adds_none}
use Rattle.hm_names.proofs.DeclaredPairs.{contains_map, map_contains, none_in}
use Rattle.hm_names.proofs.Meant.{text_decides}
use Rattle.hm_scope_imports.specs.Apart.{AreNamedApart}
use Rattle.hm_scope_imports.specs.Selections.{IsBroughtFrom}
use Rattle.hm_scope_imports.proofs.FaultyLists.{FaultOf, ListFault}

module _ (fs : List (Bor Interface)) (i : Import) where
  -- no interface has the name of the imported module
  module _ (none : (f : Bor Interface) → Contains fs f → ¬ (f.now.name ≡ i.name.text)) where
    pub brought_none : (old : List Pair) → Adds old old (IsBroughtFrom (map (λ f. f.now) fs) i)
    brought_none old = adds_none old (IsBroughtFrom (map (λ f. f.now) fs) i)
        (λ p h. let b = contains_map (λ (f : Bor Interface). f.now) fs h.interface h.stands in none b.0 b.1.0 (ap (λ (f : Interface). f.name) b.1.1 ∙ h.same_name))

    pub faults_none : (old : List Fault) → Adds old old (FaultOf fs i)
    faults_none old = adds_none old (FaultOf fs i) (λ g (f, (c, (n, h))). none f c n)

  -- this one has it
  module _ (apart : AreNamedApart (map (λ f. f.now) fs)) (f : Bor Interface) (stands : Contains fs f) (named : f.now.name ≡ i.name.text) where
    there : Contains (map (λ (b : Bor Interface). b.now) fs) f.now
    there = map_contains (λ (b : Bor Interface). b.now) fs f stands

    pub brought_one : (old new : List Pair) → Adds old new (IsBroughtPair f.now i) → Adds old new (IsBroughtFrom (map (λ f. f.now) fs) i)
    brought_one old new a = adds_like old new (IsBroughtPair f.now i) (IsBroughtFrom (map (λ f. f.now) fs) i)
        (λ p h. record { interface = f.now; stands = there; same_name = named; brought = h })
        (λ p h. subst (λ (g : Interface). IsBroughtPair g i p) (apart h.interface f.now h.stands there (h.same_name ∙ sym named)) h.brought) a

    pub faults_one : (old new : List Fault) → Adds old new (ListFault f.now i.list) → Adds old new (FaultOf fs i)
    faults_one old new a = adds_like old new (ListFault f.now i.list) (FaultOf fs i)
        (λ g h. (f, (stands, (named, h))))
        (λ g (e, (c, (n, h))). subst (λ (y : Interface). ListFault y i.list g) (apart e.now f.now (map_contains (λ (b : Bor Interface). b.now) fs e c) there (n ∙ sym named)) h) a

-- ---- the interfaces that a module requires

abbrev AreNew : List (List ℕ) → List Interface → Type 0
AreNew seen fs = (f : Interface) → Contains fs f → is_text_among f.name seen ≡ false

not_in_rest : (x y : List ℕ) (seen : List (List ℕ)) → is_text_among x (y ∷ seen) ≡ false → (¬ (x ≡ y)) × (is_text_among x seen ≡ false)
not_in_rest x y seen e = at (same_text x y) (is_text_among x seen) e (text_decides x y).1
  where
    at : (b c : Bool) → (Rattle.std.specs.Prelude.◌||◌ b c) ≡ false → (x ≡ y → b ≡ true) → (¬ (x ≡ y)) × (c ≡ false)
    at true c q f = absurd (cc)
    at false c q f = ((λ p. let z : false ≡ true = f p in absurd (cc)), q)

-- the first or a later one
in_rest : {X : Type 0} (x : X) (xs : List X) (y : X) → Contains (x ∷ xs) y → (x ≡ y) ⊎ Contains xs y
in_rest x xs y (zero, h, e) = inl e
in_rest x xs y (suc k, h, e) = inr (k, omega (arith, h), e)

-- one more interface, of a name that isn't among the others'
pub apart_more : (g : Interface) (fs : List Interface) → ((f : Interface) → Contains fs f → ¬ (f.name ≡ g.name)) → AreNamedApart fs → AreNamedApart (g ∷ fs)
apart_more g fs new apart e f c d n = at (in_rest g fs e c) (in_rest g fs f d)
  where
    at : (g ≡ e) ⊎ Contains fs e → (g ≡ f) ⊎ Contains fs f → e ≡ f
    at (inl p) (inl q) = sym p ∙ q
    at (inl p) (inr q) = absurd (new f q (sym n ∙ ap (λ (y : Interface). y.name) (sym p)))
    at (inr p) (inl q) = absurd (new e p (n ∙ ap (λ (y : Interface). y.name) (sym q)))
    at (inr p) (inr q) = apart e f p q n

record AreApart (seen : List (List ℕ)) (fs : List Interface) : Type 0 where
  new : AreNew seen fs
  apart : AreNamedApart fs

-- one more import
after_one : (seen : List (List ℕ)) (i : Import) (is : List Import) →
    ((fs : List Interface) → map (λ f. f.name) fs ≡ imported_after seen is → AreApart seen fs) →
    ((fs : List Interface) → map (λ f. f.name) fs ≡ imported_after (i.name.text ∷ seen) is → AreApart (i.name.text ∷ seen) fs) →
    (fs : List Interface) → map (λ f. f.name) fs ≡ imported_after seen (i ∷ is) → AreApart seen fs
after_one seen i is known new fs e = at (is_text_among i.name.text seen) refl e
  where
    rest : (g : Interface) (gs : List Interface) → g.name ≡ i.name.text → is_text_among i.name.text seen ≡ false → AreApart (i.name.text ∷ seen) gs → AreApart seen (g ∷ gs)
    rest g gs n s h = record {
      new = λ f c. ⊎_elim (λ p. subst (λ x. is_text_among x seen ≡ false) (sym n ∙ ap (λ (y : Interface). y.name) p) s) (λ d. (not_in_rest f.name i.name.text seen (h.new f d)).1) (in_rest g gs f c);
      apart = apart_more g gs (λ f c m. (not_in_rest f.name i.name.text seen (h.new f c)).0 (m ∙ n)) h.apart;
    }

    first : is_text_among i.name.text seen ≡ false → (fs : List Interface) → map (λ (f : Interface). f.name) fs ≡ i.name.text ∷ imported_after (i.name.text ∷ seen) is → AreApart seen fs
    first s [] e = absurd (cc)
    first s (g ∷ gs) e = rest g gs (cc) s (new gs (cc))

    at : (b : Bool) → is_text_among i.name.text seen ≡ b → map (λ (f : Interface). f.name) fs ≡ cond b (imported_after seen is) (i.name.text ∷ imported_after (i.name.text ∷ seen) is) → AreApart seen fs
    at true s e = known fs e
    at false s e = first s fs e

after : (seen : List (List ℕ)) (is : List Import) (fs : List Interface) → map (λ f. f.name) fs ≡ imported_after seen is → AreApart seen fs
after seen [] [] e = record { new = λ f c. absurd (none_in f c); apart = λ f g c d n. absurd (none_in f c) }
after seen [] (f ∷ fs) e = absurd (cc)
after seen (i ∷ is) fs e = after_one seen i is (after seen is) (after (i.name.text ∷ seen) is) fs e

-- Prelude's interface and those of the imports are of different modules
pub imports_are_apart : (m : Module) (prelude : Interface) (fs : List Interface) → prelude.name ≡ prelude_name → AreImportsOf m fs → AreNamedApart (prelude ∷ fs)
imports_are_apart m prelude fs n are =
    let h = after (prelude_name ∷ []) m.header.imports fs are in
    apart_more prelude fs (λ f c e. (not_in_rest f.name prelude_name [] (h.new f c)).0 (e ∙ n)) h.apart
