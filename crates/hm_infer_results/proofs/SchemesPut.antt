-- The canonical schemes of variables, one after the other.
use Rattle.std.proofs.Common.{◌≡◌, ℕ, ◌+◌, ◌<◌, ◌≤◌, List, [], ◌∷◌, length, take, get_or, Bool, true, false, if◌then◌else◌, Option, Some, bytes_eq, ⊎_elim, refl, sym, ap, ◌∙◌, subst}
use Rattle.std.proofs.lemmas.Slice.Eq.{bytes_eq-Decides}
use Rattle.std.proofs.lemmas.List.{take_all}
use Rattle.hm_types.specs.Monotypes.{Mono}
use Rattle.hm_types.specs.Schemes.{TypeScheme, canonical_of}
use Rattle.hm_types.specs.Types.{put}
use Rattle.hm_typing.specs.Names.{Identifier, local, global, binding}
use Rattle.hm_names.specs.Cores as cores
use Rattle.hm_infer_context.specs.Environments.{Assumed, opened}
use Rattle.hm_infer_context.specs.AssumedTypes.{type_in}
use Rattle.hm_infer_context.specs.Kept.{assumed_of, entries_of}
use Rattle.hm_infer_expressions.specs.OwnSchemes.{HaveCanonical, canonical_scheme}
use Rattle.hm_infer_context.specs.declared.environment.Binding.{Binding}
use Rattle.hm_infer_context.proofs.Tables.{stack_one_more}

abbrev own : List ℕ → List ℕ → Identifier
own home x = global (record { «module» = home; name = x })

name_in : Identifier → List ℕ
name_in (local x) = x
name_in (global e) = e.name
name_in (binding m k) = []

-- One more scheme

pub none_put : (home : List ℕ) (b : Binding) (given : List ℕ → Option TypeScheme) → ((x : List ℕ) → ¬ ((assumed_of b).name ≡ own home x)) → (es : List Assumed) → HaveCanonical home es given → HaveCanonical home (assumed_of b ∷ es) given
none_put home b given n es h x s i = ⊎_elim (λ p. absurd (n x p.0)) (λ p. h x s p.1) i

pub one_put : (home text : List ℕ) (b : Binding) (u : Mono) (scheme : TypeScheme) (given given1 : List ℕ → Option TypeScheme) → (assumed_of b).name ≡ own home text → u ≡ put (opened false b.quantified 0) (type_in b.body) → scheme ≡ canonical_of u →
    ((x : List ℕ) → given1 x ≡ (if bytes_eq text x then Some scheme else given x)) → (es : List Assumed) → HaveCanonical home es given → HaveCanonical home (assumed_of b ∷ es) given1
unfolding name_in
one_put home text b u scheme given given1 named e f g es h x s i = at (bytes_eq text x) refl
  where
    same : bytes_eq text x ≡ true → text ≡ x
    same t = (bytes_eq-Decides text x).0 t

    here : given1 x ≡ Some scheme → text ≡ x → given1 x ≡ Some (canonical_scheme s)
    here k t = ⊎_elim (λ p. k ∙ ap Some (f ∙ ap canonical_of e) ∙ ap (λ z. Some (canonical_scheme z)) p.1) (λ p. absurd (p.0 (named ∙ ap (own home) t))) i

    there : given1 x ≡ given x → ¬ (text ≡ x) → given1 x ≡ Some (canonical_scheme s)
    there k t = ⊎_elim (λ p. absurd (t (ap name_in (sym named ∙ p.0)))) (λ p. k ∙ h x s p.1) i

    at : (c : Bool) → bytes_eq text x ≡ c → given1 x ≡ Some (canonical_scheme s)
    at true t = here (g x ∙ ap (λ c. if c then Some scheme else given x) t) (same t)
    at false t = there (g x ∙ ap (λ c. if c then Some scheme else given x) t) (λ k. clash (sym ((bytes_eq-Decides text x).1 k) ∙ t))
      where
        clash : true ≡ false → ⊥
        clash z = cc

pub step_put : (home : List ℕ) (bs : List Binding) (i : ℕ) (b : Binding) (given given1 : List ℕ → Option TypeScheme) → i < length bs → b ≡ get_or bs i b → HaveCanonical home (entries_of (take i bs)) given →
    ((es : List Assumed) → HaveCanonical home es given → HaveCanonical home (assumed_of b ∷ es) given1) → HaveCanonical home (entries_of (take (i + 1) bs)) given1
step_put home bs i b given given1 l e h f = subst (λ es. HaveCanonical home es given1) (sym (stack_one_more assumed_of bs i b l e)) (f (entries_of (take i bs)) h)

pub all_put : (home : List ℕ) (bs : List Binding) (i : ℕ) (given : List ℕ → Option TypeScheme) (es : List Assumed) → length bs ≤ i → entries_of bs ≡ es → HaveCanonical home (entries_of (take i bs)) given → HaveCanonical home es given
all_put home bs i given es l e h = subst (λ z. HaveCanonical home z given) (ap entries_of (take_all i bs l) ∙ e) h
