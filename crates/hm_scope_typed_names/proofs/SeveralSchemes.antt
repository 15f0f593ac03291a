-- The scheme of an entry, and the schemes of several interfaces.
use Rattle.std.proofs.Common.{◌≡◌, ℕ, ◌+◌, ◌<◌, ◌≤◌, List, [], ◌∷◌, ◌++◌, Contains, inl, inr, length, map, take, get_or, refl, sym, ap, subst, ◌∙◌}
use Rattle.std.specs.Borrow.{Bor}
use Rattle.std.proofs.lemmas.List.{map_more, take_all}
use Rattle.std.proofs.lemmas.List.Elements.{Contains-push_cases}
use Rattle.hm_names.specs.Bindings.{Pair}
use Rattle.hm_names.proofs.DeclaredPairs.{map_contains}
use Rattle.hm_names.specs.declared.namespace.Namespace.{Namespace}
use Rattle.hm_names.specs.declared.namespace.Namespace.TheVariants.{Constructors, Values}
use Rattle.hm_scope_typed_names.specs.Typed.{HasScheme, IsSchemeIn, of_constructor, of_variable}
use Rattle.hm_types.specs.Interfaces.{Exports as Interface}
use Rattle.hm_types.specs.Schemes.{TypeScheme}
use Rattle.hm_types.specs.declared.entries.ConstructorEntry.{ConstructorEntry}
use Rattle.hm_types.specs.declared.entries.ValueEntry.{ValueEntry}

pub constructor_scheme : (f : Interface) (p : Pair) (space : Namespace) (entries : List ConstructorEntry) (c : ConstructorEntry) → space ≡ p.space → space ≡ Constructors → entries ≡ f.constructors
    → Contains entries c × ((c.name ≡ p.text) × (c.entity ≡ p.entity)) → HasScheme f p c.scheme
constructor_scheme f p space entries c of_pair is are h = of_constructor (sym of_pair ∙ is) (subst (λ (l : List ConstructorEntry). Contains l c) are h.0) h.1.0 h.1.1 refl

pub variable_scheme : (f : Interface) (p : Pair) (space : Namespace) (entries : List ValueEntry) (v : ValueEntry) → space ≡ p.space → space ≡ Values → entries ≡ f.values
    → Contains entries v × ((v.name ≡ p.text) × (v.entity ≡ p.entity)) → HasScheme f p v.scheme
variable_scheme f p space entries v of_pair is are h = of_variable (sym of_pair ∙ is) (subst (λ (l : List ValueEntry). Contains l v) are h.0) h.1.0 h.1.1 refl

not_both : Values ≡ Constructors → ⊥
not_both e = cc

pub no_constructor : (f : Interface) (p : Pair) (space : Namespace) (entries : List ConstructorEntry) → space ≡ p.space → space ≡ Constructors → entries ≡ f.constructors
    → ((c : ConstructorEntry) → Contains entries c → c.name ≡ p.text → ¬ (c.entity ≡ p.entity)) → (s : TypeScheme) → HasScheme f p s → ⊥
no_constructor f p space entries of_pair is are none s (of_variable {v} at has named same e) = not_both (sym at ∙ (sym of_pair ∙ is))
no_constructor f p space entries of_pair is are none s (of_constructor {c} at has named same e) = none c (subst (λ (l : List ConstructorEntry). Contains l c) (sym are) has) named same

pub no_variable : (f : Interface) (p : Pair) (space : Namespace) (entries : List ValueEntry) → space ≡ p.space → space ≡ Values → entries ≡ f.values
    → ((v : ValueEntry) → Contains entries v → v.name ≡ p.text → ¬ (v.entity ≡ p.entity)) → (s : TypeScheme) → HasScheme f p s → ⊥
no_variable f p space entries of_pair is are none s (of_variable {v} at has named same e) = none v (subst (λ (l : List ValueEntry). Contains l v) (sym are) has) named same
no_variable f p space entries of_pair is are none s (of_constructor {c} at has named same e) = not_both (sym is ∙ (of_pair ∙ at))

abbrev pub values : List (Bor Interface) → List Interface
values fs = map (λ f. f.now) fs

pub found_at : (fs : List (Bor Interface)) (i : ℕ) (f : Bor Interface) (p : Pair) (s : TypeScheme) → i < length fs → f ≡ get_or fs i f → HasScheme f.now p s → IsSchemeIn (values fs) p s
found_at fs i f p s low at has = record { interface = f.now; among = map_contains (λ (g : Bor Interface). g.now) fs f (i, low, sym at); has = has }

pub none_more : (fs : List (Bor Interface)) (i : ℕ) (f : Bor Interface) (p : Pair) → i < length fs → f ≡ get_or fs i f → ((s : TypeScheme) → ¬ (IsSchemeIn (values (take i fs)) p s)) → ((s : TypeScheme) → ¬ (HasScheme f.now p s))
    → (s : TypeScheme) → IsSchemeIn (values (take (i + 1) fs)) p s → ⊥
none_more fs i f p low at before own s h =
    let more : values (take (i + 1) fs) ≡ values (take i fs) ++ f.now ∷ [] = map_more (λ g. g.now) fs i f low ∙ ap (λ (g : Bor Interface). values (take i fs) ++ g.now ∷ []) (sym at) in
    elim (Contains-push_cases (values (take i fs)) f.now h.interface (subst (λ (l : List Interface). Contains l h.interface) more h.among)) [
      | inl there ↦ before s (record { interface = h.interface; among = there; has = h.has })
      | inr is ↦ own s (subst (λ (g : Interface). HasScheme g p s) (sym is) h.has)
    ]

pub none_at_all : (fs : List (Bor Interface)) (i : ℕ) (p : Pair) → length fs ≤ i → ((s : TypeScheme) → ¬ (IsSchemeIn (values (take i fs)) p s)) → (s : TypeScheme) → IsSchemeIn (values fs) p s → ⊥
none_at_all fs i p ends none s h = none s (subst (λ (l : List (Bor Interface)). IsSchemeIn (values l) p s) (sym (take_all i fs ends)) h)
