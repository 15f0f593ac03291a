-- The table of interfaces.
use Rattle.std.proofs.Common.{◌≡◌, ℕ, ◌+◌, ◌<◌, ◌≤◌, Bool, true, false, cond, List, [], ◌∷◌, ◌++◌, map, take, get_or, length, Contains, Option, None, Some, option_map, Bor, ⊎_elim, refl, sym, ap, ◌∙◌, subst}
use Rattle.std.proofs.lemmas.Slice.Eq.{bytes_eq-Decides}
use Rattle.std.proofs.lemmas.List.{take_more, take_all}
use Rattle.std.proofs.lemmas.List.Elements.{Contains-push, Contains-push_cases, Contains-append_left}
use Rattle.std.specs.Map.{lookup}
use Rattle.std.specs.Str.{bytes_eq}
use Rattle.indexmap.specs.IndexMap.{get_by}
use Rattle.hm_types.specs.Interfaces.{Exports as Interface}
use Rattle.hm_names.proofs.Members.{none_in}
use Rattle.hm_names.proofs.DeclaredPairs.{contains_map, map_contains}
use Rattle.hm_scope_imports.specs.Apart.{AreNamedApart}
use Rattle.hm_uses_header.specs.Lookups.{ByName, IsInterfaceOf, IsTableOf}

-- an interface with the name, if one has it
abbrev pub IsOneOf : List (Bor Interface) → List ℕ → Option (Bor Interface) → Type 0
IsOneOf fs x None = (f : Bor Interface) → Contains fs f → ¬ (f.now.name ≡ x)
IsOneOf fs x (Some f) = Contains fs f × (f.now.name ≡ x)

-- the table has one of these interfaces under each name that one of them has
abbrev pub HasEach : List (Bor Interface) → ByName → Type 0
HasEach fs table = (x : Bor (List ℕ)) → IsOneOf fs x.now (get_by (λ k. bytes_eq x.now k.now) table)

take_none : (fs : List (Bor Interface)) → take 0 fs ≡ []
take_none [] = refl
take_none (f ∷ fs) = refl

pub has_none : (fs : List (Bor Interface)) (table : ByName) → table.entries ≡ [] → HasEach (take 0 fs) table
has_none fs table empty x =
    let nothing : get_by (λ k. bytes_eq x.now k.now) table ≡ None = ap (λ es. lookup (λ (k : Bor (List ℕ)). bytes_eq x.now k.now) es) empty in
    subst (IsOneOf (take 0 fs) x.now) (sym nothing) (λ f c. absurd (none_in f (subst (λ l. Contains l f) (take_none fs) c)))

-- one more interface
pub has_more : (fs : List (Bor Interface)) (i : ℕ) (f : Bor Interface) (old new : ByName) (s : Bor (List ℕ)) → i < length fs → f ≡ get_or fs i f → s.now ≡ f.now.name
    → ((x : Bor (List ℕ)) → get_by (λ k. bytes_eq x.now k.now) new ≡ cond (bytes_eq s.now x.now) (Some f) (get_by (λ k. bytes_eq x.now k.now) old)) → HasEach (take i fs) old → HasEach (take (i + 1) fs) new
has_more fs i f old new s inside is named updated all x =
    subst (λ l. IsOneOf l x.now (get_by (λ k. bytes_eq x.now k.now) new)) (sym more)
    (subst (IsOneOf (take i fs ++ f ∷ []) x.now) (sym (updated x)) (go (bytes_eq s.now x.now) refl (get_by (λ k. bytes_eq x.now k.now) old) (all x)))
  where
    more : take (i + 1) fs ≡ take i fs ++ f ∷ []
    more = take_more fs i f inside ∙ ap (λ y. take i fs ++ y ∷ []) (sym is)

    go : (b : Bool) → bytes_eq s.now x.now ≡ b → (o : Option (Bor Interface)) → IsOneOf (take i fs) x.now o → IsOneOf (take i fs ++ f ∷ []) x.now (cond b (Some f) o)
    go true e o h = (Contains-push (take i fs) f, sym named ∙ (bytes_eq-Decides s.now x.now).0 e)
    go false e (Some g) h = (Contains-append_left (take i fs) (f ∷ []) g h.0, h.1)
    go false e None h = λ g c n. ⊎_elim (λ d. h g d n) (λ k. let t : true ≡ false = sym ((bytes_eq-Decides s.now x.now).1 (named ∙ (ap (λ (y : Bor Interface). y.now.name) k ∙ n))) ∙ e in cc) (Contains-push_cases (take i fs) f g c)

-- all of them
pub is_table : (fs : List (Bor Interface)) (i : ℕ) (table : ByName) → AreNamedApart (map (λ f. f.now) fs) → length fs ≤ i → HasEach (take i fs) table → IsTableOf (map (λ f. f.now) fs) table
is_table fs i table apart past all x = at (get_by (λ k. bytes_eq x.now k.now) table) (subst (λ l. IsOneOf l x.now (get_by (λ k. bytes_eq x.now k.now) table)) (take_all i fs past) (all x))
  where
    at : (o : Option (Bor Interface)) → IsOneOf fs x.now o → IsInterfaceOf (map (λ (f : Bor Interface). f.now) fs) x.now (option_map (λ (f : Bor Interface). f.now) o)
    at None none = λ f c n. let b = contains_map (λ (g : Bor Interface). g.now) fs f c in none b.0 b.1.0 (ap (λ (g : Interface). g.name) b.1.1 ∙ n)
    at (Some f) h =
        let there : Contains (map (λ (g : Bor Interface). g.now) fs) f.now = map_contains (λ (g : Bor Interface). g.now) fs f h.0 in
        record { stands = there; named = h.1; alone = λ g c n. apart g f.now c there (n ∙ sym h.1) }
