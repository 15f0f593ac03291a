-- Where a table finds the first entry of a constructor.
use Rattle.std.proofs.Common.{◌≡◌, ℕ, ◌+◌, ◌-◌, ◌<◌, Bool, true, false, true≢false, cond, ◌&&◌, List, ◌∷◌, drop, length, get_or, Option, Some, None, refl, sym, ap, ◌∙◌, subst, arith, bytes_eq}
use Rattle.std.specs.List.{slice_get}
use Rattle.std.proofs.lemmas.Slice.Eq.{bytes_eq-Decides}
use Rattle.hm_types.specs.declared.Entity.{Entity}
use Rattle.hm_names_keys.specs.Keys.{Table, number_of, same_variable}
use Rattle.hm_names_keys.specs.Variables.{Variable}
use Rattle.hm_names_keys.proofs.Pushed.{some_injective}
use Rattle.hm_names.specs.Cores.{ConstructorScheme}
use Rattle.hm_names.specs.Described.{first_of}
use Rattle.hm_names.specs.Texts.{same_entity}
use Rattle.hm_infer_context.specs.declared.constructors.Entry.{Entry}
use Rattle.hm_infer_context.specs.ConstructorPlaces.{AreFirstPlaces, key_of_entity}
use Rattle.hm_infer_context.specs.Kept.{scheme_of, schemes_of}
use Rattle.hm_infer_context.proofs.Suffixes.{drop_more}

same_turned : (x y : List ℕ) → bytes_eq x y ≡ bytes_eq y x
same_turned x y = at (bytes_eq x y) (bytes_eq y x) refl refl
  where
    at : (a b : Bool) → bytes_eq x y ≡ a → bytes_eq y x ≡ b → bytes_eq x y ≡ bytes_eq y x
    at true true e f = e ∙ sym f
    at false false e f = e ∙ sym f
    at true false e f = absurd (true≢false (sym ((bytes_eq-Decides y x).1 (sym ((bytes_eq-Decides x y).0 e))) ∙ f))
    at false true e f = absurd (true≢false (sym ((bytes_eq-Decides x y).1 (sym ((bytes_eq-Decides y x).0 f))) ∙ e))

same_key : (e d : Entity) → same_variable (key_of_entity d) (key_of_entity e) ≡ same_entity e d
same_key e d = ap (λ b. b && bytes_eq d.name e.name) (same_turned d.«module» e.«module») ∙ ap (λ b. bytes_eq e.«module» d.«module» && b) (same_turned d.name e.name)

abbrev first : Entity → List Entry → Option ConstructorScheme
first e ds = first_of (λ d. d.entity) e (schemes_of ds)

-- an entry before others
pub first_before : (all some : List Entry) (d : Entry) (p : ℕ) (old new : Table) → slice_get all p ≡ Some d → AreFirstPlaces all some old → ((x : Variable) → number_of new x ≡ cond (same_variable (key_of_entity (scheme_of d).entity) x) (Some p) (number_of old x)) → AreFirstPlaces all (d ∷ some) new
first_before all some d p old new g t u = record {
  found = λ e q h. found_at e q h (same_entity e (scheme_of d).entity) refl;
  none = λ e h. none_at e h (same_entity e (scheme_of d).entity) refl;
}
  where
    at_key : (e : Entity) (b : Bool) → same_entity e (scheme_of d).entity ≡ b → number_of new (key_of_entity e) ≡ cond b (Some p) (number_of old (key_of_entity e))
    at_key e b s = u (key_of_entity e) ∙ ap (λ c. cond c (Some p) (number_of old (key_of_entity e))) (same_key e (scheme_of d).entity ∙ s)

    at_first : (e : Entity) (b : Bool) → same_entity e (scheme_of d).entity ≡ b → first e (d ∷ some) ≡ cond b (Some (scheme_of d)) (first e some)
    at_first e b s = ap (λ c. cond c (Some (scheme_of d)) (first e some)) s

    found_at : (e : Entity) (q : ℕ) → number_of new (key_of_entity e) ≡ Some q → (b : Bool) → same_entity e (scheme_of d).entity ≡ b → (w : Entry) × ((slice_get all q ≡ Some w) × (first e (d ∷ some) ≡ Some (scheme_of w)))
    found_at e q h true s = (d, (ap (slice_get all) (sym (some_injective (sym (at_key e true s) ∙ h))) ∙ g, at_first e true s))
    found_at e q h false s = let r = t.found e q (sym (at_key e false s) ∙ h) in (r.0, (r.1.0, at_first e false s ∙ r.1.1))

    none_at : (e : Entity) → number_of new (key_of_entity e) ≡ None → (b : Bool) → same_entity e (scheme_of d).entity ≡ b → first e (d ∷ some) ≡ None
    none_at e h true s = let k : Some p ≡ None = sym (at_key e true s) ∙ h in absurd (cc)
    none_at e h false s = at_first e false s ∙ t.none e (sym (at_key e false s) ∙ h)

-- entries from the end
pub first_next : (all : List Entry) (behind : ℕ) (d : Entry) (old new : Table) → behind < length all → d ≡ get_or all (length all - 1 - behind) d → slice_get all (length all - 1 - behind) ≡ Some d → AreFirstPlaces all (drop (length all - behind) all) old →
    ((x : Variable) → number_of new x ≡ cond (same_variable (key_of_entity (scheme_of d).entity) x) (Some (length all - 1 - behind)) (number_of old x)) → AreFirstPlaces all (drop (length all - (behind + 1)) all) new
first_next all behind d old new l i g t u =
    let a : length all - (behind + 1) ≡ length all - 1 - behind = omega arith in
    let b : length all - 1 - behind + 1 ≡ length all - behind = omega arith in
    let here : drop (length all - (behind + 1)) all ≡ d ∷ drop (length all - behind) all = ap (λ n. drop n all) a ∙ (drop_more all (length all - 1 - behind) d (omega arith) i ∙ ap (λ n. d ∷ drop n all) b) in
    subst (λ (z : List Entry). AreFirstPlaces all z new) (sym here) (first_before all (drop (length all - behind) all) d (length all - 1 - behind) old new g t u)
