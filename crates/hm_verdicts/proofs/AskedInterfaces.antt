-- The published interfaces of a module's imports, in the plan's order, are those that the module asks for.
use Rattle.std.proofs.Common.{◌≡◌, ◌≢◌, ℕ, zero, suc, ◌<◌, Bool, true, false, cond, List, [], ◌∷◌, map, length, slice_index_or, Contains, ◌↔◌, inl, inr, ◌⊎◌, ⊎_elim, refl, sym, ap, ap₂, ◌∙◌, subst, arith}
use Rattle.std.specs.Prelude.{slice_index}
use Rattle.std.proofs.lemmas.Bool.{cases_order, cases_Bool}
use Rattle.std.proofs.lemmas.List.{get_or_default}
use Rattle.hm_types.specs.Interfaces.{Exports as Interface}
use Rattle.hm_typing.specs.Names.{IsOneOf}
use Rattle.hm_syntax.specs.declared.ast.Import.{Import}
use Rattle.hm_syntax.specs.declared.ast.Module.{Module}
use Rattle.hm_graph.specs.Imports.{Modules, IsImportList, name_at, imports_at, prelude}
use Rattle.hm_names.specs.Imports.{AreImportsOf, imported, imported_after}
use Rattle.hm_names.specs.Texts.{is_text_among, same_text}
use Rattle.hm_names.proofs.Meant.{text_decides}
use Rattle.hm_names.proofs.Members.{text_discrete}
use Rattle.hm_verdicts.specs.Progress.{Progress, ArePublishedIn, IsSettledSoFar}
use Rattle.hm_verdicts.specs.Sets.{ModuleSet, module_at, imports_of, no_module, outlines_of, IsLawfulSet}
use Rattle.hm_verdicts.specs.Verdicts.{Published}
use Rattle.hm_verdicts.proofs.LawfulReading.{outline_at}
use Rattle.hm_verdicts.proofs.Lists.{one_of_contained, contained, one_of_map, one_of_mapped}

abbrev Text : Type 0
Text = List ℕ

-- ---- texts in order of first occurrence

-- each text that isn't among those seen, where it occurs first
abbrev firsts : List Text → List Text → List Text
firsts seen [] = []
firsts seen (y ∷ ys) = cond (is_text_among y seen) (firsts seen ys) (y ∷ firsts (y ∷ seen) ys)

imported_firsts : (seen : List Text) (is : List Import) → imported_after seen is ≡ firsts seen (map (λ i. i.name.text) is)
imported_firsts seen [] = refl
imported_firsts seen (i ∷ is) = ap₂ (λ x y. cond (is_text_among i.name.text seen) x (i.name.text ∷ y)) (imported_firsts seen is) (imported_firsts (i.name.text ∷ seen) is)

among : (x : Text) (ys : List Text) → is_text_among x ys ≡ true → IsOneOf x ys
among x [] e = absurd (cc)
among x (y ∷ ys) e = at (same_text x y) (is_text_among x ys) e (text_decides x y).0 (among x ys)
  where
    at : (b c : Bool) → (Rattle.std.specs.Prelude.◌||◌ b c) ≡ true → (b ≡ true → x ≡ y) → (c ≡ true → IsOneOf x ys) → (x ≡ y) ⊎ IsOneOf x ys
    at true c q f g = inl (f refl)
    at false c q f g = inr (g q)

not_among : (x : Text) (ys : List Text) → is_text_among x ys ≡ false → ¬ (IsOneOf x ys)
not_among x [] e o = o
not_among x (y ∷ ys) e o = at (same_text x y) (is_text_among x ys) e (text_decides x y).1 (not_among x ys) o
  where
    at : (b c : Bool) → (Rattle.std.specs.Prelude.◌||◌ b c) ≡ false → (x ≡ y → b ≡ true) → (c ≡ false → ¬ (IsOneOf x ys)) → ¬ ((x ≡ y) ⊎ IsOneOf x ys)
    at true c q f g o = absurd (cc)
    at false c q f g (inl p) = let z : false ≡ true = f p in absurd (cc)
    at false c q f g (inr p) = g q p

-- x stands at place i, and not before
record FirstAt (l : List Text) (x : Text) (i : ℕ) : Type 0 where
  place : i < length l
  is : slice_index_or l i [] ≡ x
  first : (j : ℕ) → j < i → slice_index_or l j [] ≢ x

first_here : (y : Text) (l : List Text) → FirstAt (y ∷ l) y 0
first_here y l = record { place = omega arith; is = refl; first = λ j a. absurd (omega (arith, a)) }

first_later : (y : Text) (l : List Text) (x : Text) (i : ℕ) → ¬ (y ≡ x) → FirstAt l x i → FirstAt (y ∷ l) x (suc i)
first_later y l x i n f = record { place = let a = f.place in omega (arith, a); is = f.is; first = at }
  where
    at : (j : ℕ) → j < suc i → slice_index_or (y ∷ l) j [] ≢ x
    at zero a e = n e
    at (suc j) a e = f.first j (omega (arith, a)) e

first_of : (l : List Text) (x : Text) → IsOneOf x l → (i : ℕ) × FirstAt l x i
first_of [] x o = absurd o
first_of (y ∷ l) x o = at (λ p. first_of l x p) (text_discrete y x) o
  where
    at : (IsOneOf x l → (i : ℕ) × FirstAt l x i) → Dec (y ≡ x) → IsOneOf x (y ∷ l) → (i : ℕ) × FirstAt (y ∷ l) x i
    at later (yes e) p = (0, subst (λ z. FirstAt (y ∷ l) z 0) e (first_here y l))
    at later (no n) (inl e) = absurd (n (sym e))
    at later (no n) (inr p) = let r = later p in (suc r.0, first_later y l x r.0 n r.1)

-- x occurs first before y does
abbrev Before : List Text → Text → Text → Type 0
Before l x y = (i j : ℕ) → FirstAt l x i → FirstAt l y j → i < j

abbrev IsSorted : List Text → List Text → Type 0
IsSorted l [] = Unit {0}
IsSorted l (x ∷ xs) = ((y : Text) → IsOneOf y xs → Before l x y) × IsSorted l xs

before_rest : (z : Text) (l : List Text) (x y : Text) → ¬ (z ≡ x) → ¬ (z ≡ y) → Before (z ∷ l) x y → Before l x y
before_rest z l x y n m b i j f g = let h = b (suc i) (suc j) (first_later z l x i n f) (first_later z l y j m g) in omega (arith, h)

sorted_rest : (z : Text) (l : List Text) (xs : List Text) → ((x : Text) → IsOneOf x xs → ¬ (z ≡ x)) → IsSorted (z ∷ l) xs → IsSorted l xs
sorted_rest z l [] n s = tt
sorted_rest z l (x ∷ xs) n s = ((λ y o. before_rest z l x y (n x (inl refl)) (n y (inr o)) (s.0 y o)), sorted_rest z l xs (λ y o. n y (inr o)) s.1)

abbrev HasMembers : List Text → List Text → List Text → Type 0
HasMembers l seen xs = (x : Text) → IsOneOf x xs ↔ (IsOneOf x l × ¬ (IsOneOf x seen))

-- what is found from the rest of the list on
abbrev Rest : List Text → List Text → List Text → Type 0
Rest l seen xs = HasMembers l seen xs → IsSorted l xs → xs ≡ firsts seen l

seen_step : (y : Text) (l seen xs : List Text) → IsOneOf y seen → Rest l seen xs → HasMembers (y ∷ l) seen xs → IsSorted (y ∷ l) xs → xs ≡ firsts seen l
seen_step y l seen xs o later h s = later members (sorted_rest y l xs apart s)
  where
    apart : (x : Text) → IsOneOf x xs → ¬ (y ≡ x)
    apart x p e = ((h x).0 p).1 (subst (λ z. IsOneOf z seen) e o)

    members : HasMembers l seen xs
    members x = ((λ p. let q = (h x).0 p in (⊎_elim (λ e. absurd (apart x p (sym e))) (λ r. r) q.0, q.1)), (λ q. (h x).1 (inr q.0, q.1)))

new_step : (y : Text) (l seen : List Text) (x : Text) (xs : List Text) → ¬ (IsOneOf y seen) → Rest l (y ∷ seen) xs → HasMembers (y ∷ l) seen (x ∷ xs) → IsSorted (y ∷ l) (x ∷ xs) → (x ∷ xs) ≡ (y ∷ firsts (y ∷ seen) l)
new_step y l seen x xs n later h s = ap₂ (λ a b. a ∷ b) is_y (later members (sorted_rest y l xs apart s.1))
  where
    is_y : x ≡ y
    is_y = ⊎_elim (λ e. sym e) (λ p. let f = first_of (y ∷ l) x ((h x).0 (inl refl)).0 in let b = s.0 y p f.0 0 f.1 (first_here y l) in absurd (omega (arith, b))) ((h y).1 (inl refl, n))

    apart : (z : Text) → IsOneOf z xs → ¬ (y ≡ z)
    apart z o e =
        let f = first_of (y ∷ l) z ((h z).0 (inr o)).0 in
        let b = s.0 z o f.0 f.0 (subst (λ w. FirstAt (y ∷ l) w f.0) (sym (is_y ∙ e)) f.1) f.1 in
        absurd (omega (arith, b))

    members : HasMembers l (y ∷ seen) xs
    members z = (
      (λ o. let q = (h z).0 (inr o) in (⊎_elim (λ e. absurd (apart z o (sym e))) (λ r. r) q.0, (λ p. ⊎_elim (λ e. apart z o (sym e)) q.1 p))),
      (λ q. ⊎_elim (λ e. absurd (q.1 (inl (e ∙ is_y)))) (λ p. p) ((h z).1 (inr q.0, (λ p. q.1 (inr p))))),
    )

-- texts with the members of a list, in order of first occurrence, are its firsts
sorted_firsts : (l seen xs : List Text) → HasMembers l seen xs → IsSorted l xs → xs ≡ firsts seen l
sorted_firsts [] seen [] h s = refl
sorted_firsts [] seen (x ∷ xs) h s = absurd ((h x).0 (inl refl)).0
sorted_firsts (y ∷ l) seen [] h s = elim (cases_Bool (is_text_among y seen)) [
  | inl old ↦ seen_step y l seen [] (among y seen old) (λ m t. sorted_firsts l seen [] m t) h s ∙ sym (ap (λ b. cond b (firsts seen l) (y ∷ firsts (y ∷ seen) l)) old)
  | inr new ↦ absurd ((h y).1 (inl refl, not_among y seen new))
]
sorted_firsts (y ∷ l) seen (x ∷ xs) h s = elim (cases_Bool (is_text_among y seen)) [
  | inl old ↦ seen_step y l seen (x ∷ xs) (among y seen old) (λ m t. sorted_firsts l seen (x ∷ xs) m t) h s ∙ sym (ap (λ b. cond b (firsts seen l) (y ∷ firsts (y ∷ seen) l)) old)
  | inr new ↦ new_step y l seen x xs (not_among y seen new) (λ m t. sorted_firsts l (y ∷ seen) xs m t) h s ∙ sym (ap (λ b. cond b (firsts seen l) (y ∷ firsts (y ∷ seen) l)) new)
]

-- ---- the names of a plan's row

sorted_row : (l : List Text) (name : ℕ → Text) (row : List ℕ) → ((p q : ℕ) → p < q → q < length row → Before l (name (slice_index row p)) (name (slice_index row q))) → IsSorted l (map name row)
sorted_row l name [] h = tt
sorted_row l name (k ∷ ks) h = (first, sorted_row l name ks (λ p q a b. h (suc p) (suc q) (omega (arith, a)) (omega (arith, b))))
  where
    first : (y : Text) → IsOneOf y (map name ks) → Before l (name k) y
    first y o =
        let m = one_of_mapped name y ks o in
        let c = contained ks m.0 m.1.0 in
        subst (λ z. Before l (name k) z) (sym (m.1.1 ∙ ap name (sym (at c)))) (h 0 (suc c.0) (omega arith) (let a = c.1 in omega (arith, a)))
      where
        at : {x : ℕ} → (c : Contains ks x) → slice_index ks c.0 ≡ x
        at {x} c = get_or_default ks c.0 0 x c.1 ∙ c.2

length-map : (ms : List Module) → length (outlines_of ms) ≡ length ms
length-map [] = refl
length-map (m ∷ ms) = ap suc (length-map ms)

module _ (p : ModuleSet) (law : IsLawfulSet p) where
  abbrev outlines : Modules
  outlines = outlines_of p.modules

  imports_text : (ms : List Module) (i : ℕ) → imports_at (outlines_of ms) i ≡ map (λ k. k.name.text) (slice_index_or ms i no_module).header.imports
  imports_text [] i = refl
  imports_text (m ∷ ms) zero = refl
  imports_text (m ∷ ms) (suc i) = imports_text ms i

  -- a module with this name, or none
  named_below : (x : Text) (n : ℕ) → ((k : ℕ) × ((k < n) × (name_at outlines k ≡ x))) ⊎ ((k : ℕ) → k < n → name_at outlines k ≢ x)
  named_below x zero = inr (λ k l. absurd (omega (arith, l)))
  named_below x (suc n) = at (named_below x n) (text_discrete (name_at outlines n) x)
    where
      at : ((k : ℕ) × ((k < n) × (name_at outlines k ≡ x))) ⊎ ((k : ℕ) → k < n → name_at outlines k ≢ x) → Dec (name_at outlines n ≡ x) → ((k : ℕ) × ((k < suc n) × (name_at outlines k ≡ x))) ⊎ ((k : ℕ) → k < suc n → name_at outlines k ≢ x)
      at d (yes e) = inl (n, (omega arith, e))
      at (inl r) (no m) = inl (r.0, (let a = r.1.0 in omega (arith, a), r.1.1))
      at (inr f) (no m) = inr (λ k l e. elim (cases_order k n) [ inl q ↦ m (subst (λ z. name_at outlines z ≡ x) q e) | inr (inl q) ↦ f k q e | inr (inr q) ↦ absurd (omega (arith, l, q)) ])

  module _ (i : ℕ) (inside : i < length p.modules) where
    there : i < length outlines
    there = subst (λ n. i < n) (sym (length-map p.modules)) inside

    list : IsImportList outlines i (imports_of p i)
    list = law.planned.each i there

    -- an import that isn't Prelude is a module of the set
    import_named : (x : Text) → IsOneOf x (imports_at outlines i) → x ≢ prelude → (k : ℕ) × ((k < length outlines) × (name_at outlines k ≡ x))
    import_named x o n = at (named_below x (length outlines))
      where
        at : ((k : ℕ) × ((k < length outlines) × (name_at outlines k ≡ x))) ⊎ ((k : ℕ) → k < length outlines → name_at outlines k ≢ x) → (k : ℕ) × ((k < length outlines) × (name_at outlines k ≡ x))
        at (inl r) = r
        at (inr f) =
            let c = contained (imports_at outlines i) x o in
            let e : slice_index_or (imports_at outlines i) c.0 [] ≡ x = get_or_default (imports_at outlines i) c.0 [] x c.1 ∙ c.2 in
            absurd (law.lawful.found i c.0 there (record { place = c.1; not_prelude = λ q. n (sym e ∙ q); no_module = λ k l q. f k l (q ∙ e) }))

    members : HasMembers (imports_at outlines i) (prelude ∷ []) (map (name_at outlines) (imports_of p i))
    members x = (
      (λ o. let m = one_of_mapped (name_at outlines) x (imports_of p i) o in
          let h = (list.members m.0).0 (contained (imports_of p i) m.0 m.1.0) in
          (subst (λ z. IsOneOf z (imports_at outlines i)) (sym m.1.1) (one_of_contained (imports_at outlines i) (name_at outlines m.0) h.1), (λ q. ⊎_elim (λ e. law.lawful.distinct m.0 h.0 (inl (sym m.1.1 ∙ e))) (λ r. r) q))),
      (λ q. let k = import_named x q.0 (λ e. q.1 (inl e)) in
          let c = (list.members k.0).1 (k.1.0, contained (imports_at outlines i) (name_at outlines k.0) (subst (λ z. IsOneOf z (imports_at outlines i)) (sym k.1.1) q.0)) in
          subst (λ z. IsOneOf z (map (name_at outlines) (imports_of p i))) k.1.1 (one_of_map (name_at outlines) k.0 (imports_of p i) (one_of_contained (imports_of p i) k.0 c))),
    )

    sorted : IsSorted (imports_at outlines i) (map (name_at outlines) (imports_of p i))
    sorted = sorted_row (imports_at outlines i) (name_at outlines) (imports_of p i)
        (λ a b l m g h f e. list.order a b g h l m (record { place = f.place; names = f.is; first = f.first }) (record { place = e.place; names = e.is; first = e.first }))

    -- the names of the row are those that the module asks for
    asked_names : map (name_at outlines) (imports_of p i) ≡ imported (module_at p i)
    asked_names =
        sorted_firsts (imports_at outlines i) (prelude ∷ []) (map (name_at outlines) (imports_of p i)) members sorted ∙
        (ap (firsts (prelude ∷ [])) (imports_text p.modules i) ∙ sym (imported_firsts (prelude ∷ []) (module_at p i).header.imports))

  published_names : (now : Progress) → IsSettledSoFar p now → (js : List ℕ) (fs : List Interface) → ArePublishedIn now js fs → map (λ f. f.name) fs ≡ map (name_at outlines) js
  published_names now h [] [] a = refl
  published_names now h [] (f ∷ fs) a = absurd a
  published_names now h (j ∷ js) [] a = absurd a
  published_names now h (j ∷ js) (f ∷ fs) a =
      let g = (h j (Published f) a.0).verdict in
      ap₂ (λ x xs. x ∷ xs) (g.interface.name ∙ (g.is_core.name ∙ sym (outline_at p.modules j))) (published_names now h js fs a.1)

  pub asked_for : (now : Progress) → IsSettledSoFar p now → (i : ℕ) → i < length p.modules → (fs : List Interface) → ArePublishedIn now (imports_of p i) fs → AreImportsOf (module_at p i) fs
  asked_for now h i l fs a = published_names now h (imports_of p i) fs a ∙ asked_names i l
