-- Canonical schemes of types over numbered variables: one for each class of equal generality.
use Rattle.std.proofs.Common.{◌≡◌, ℕ, refl, sym, ap, ap₂, ◌∙◌, subst}
use Rattle.hm_types.specs.Monotypes.{Mono, Monos, var, rigid}
use Rattle.hm_types.specs.Schemes.{TypeScheme, HasNoRigid, AllHaveNoRigid, canonical_of, IsAtLeastAsGeneral}
use Rattle.hm_types.specs.Types.{Args, Var, App, done, more, put, put_all}
use Rattle.hm_types.proofs.Renamed.{renamed_have_one_scheme, by_body}
use Rattle.hm_typing.specs.Programs.{monotype_of, scheme_of, variable_of}
use Rattle.hm_typing.specs.Schemes.{Monotype, closed, IsAtMostAsGeneral}
use Rattle.hm_typing.proofs.Programs.{decided}
use Rattle.hm_typing.proofs.Types.{put-put, put-Var}
use Rattle.hm_names.specs.Types.{declared_scheme}
use Rattle.hm_verdicts.specs.ModuleVerdicts.{IsCanonical, AreEquallyGeneral}
use Rattle.hm_verdicts.proofs.Chosen.{closed_inj}

mutual
  back : (t : Mono) → HasNoRigid t → put (λ v. Var (var v)) (monotype_of t) ≡ t
  back (Var (var n)) h = refl
  back (Var (rigid n)) h = absurd h
  back (App k ts) h = ap (λ us. App k us) (all_back ts h)

  all_back : (ts : Monos) → AllHaveNoRigid ts → put_all (λ v. Var (var v)) (put_all variable_of ts) ≡ ts
  all_back done h = refl
  all_back (more t ts) h = ap₂ (λ u us. more u us) (back t h.0) (all_back ts h.1)

declared_back : (s : TypeScheme) (t : Monotype) → IsCanonical s → scheme_of s ≡ closed t → s ≡ declared_scheme t
declared_back s t c e = c.numbered ∙ (ap canonical_of (sym (back s.body c.not_rigid)) ∙ ap declared_scheme (closed_inj (monotype_of s.body) t e))

-- a type as one of programs
abbrev pub program : Monotype → Mono
program t = put (λ v. Var (var v)) t

mutual
  pub no_rigid : (t : Monotype) → HasNoRigid (put (λ v. Var (var v)) t)
  no_rigid (Var v) = tt
  no_rigid (App h ts) = no_rigid_in ts

  no_rigid_in : (ts : Args ℕ) → AllHaveNoRigid (put_all (λ v. Var (var v)) ts)
  no_rigid_in done = tt
  no_rigid_in (more t ts) = (no_rigid t, no_rigid_in ts)

pub program_back : (t : Monotype) → monotype_of (program t) ≡ t
program_back t = put-put variable_of (λ v. Var (var v)) t ∙ put-Var t

-- a scheme with this body
abbrev pub with_body : Mono → TypeScheme
with_body t = record { vars = 0; body = t }

-- a type that is at most as general as another is an instance of it
made_from : (t u : Monotype) → IsAtMostAsGeneral (closed t) (closed u) → Rattle.hm_types.specs.Schemes.IsInstance (program t) (with_body (program u))
made_from t u h = (by_body (with_body (program u)) (with_body (program t))).0
    ((decided (with_body (program t)) (with_body (program u)) (no_rigid t) (no_rigid u)).1
    (subst (λ x. IsAtMostAsGeneral (closed x) (closed (monotype_of (program u)))) (sym (program_back t)) (subst (λ x. IsAtMostAsGeneral (closed t) (closed x)) (sym (program_back u)) h)))

pub one_canonical : (t u : Monotype) → IsAtMostAsGeneral (closed t) (closed u) → IsAtMostAsGeneral (closed u) (closed t) → declared_scheme t ≡ declared_scheme u
one_canonical t u h k =
    let a = made_from t u h in
    let b = made_from u t k in
    (renamed_have_one_scheme (program t) (program u)).0 (record { there = b.0; made = b.1; back = a.0; made_back = a.1 })

-- a canonical scheme is that of each type that is equally general
pub declared_as : (s : TypeScheme) (t : Monotype) → IsCanonical s → AreEquallyGeneral (scheme_of s) (closed t) → s ≡ declared_scheme t
declared_as s t c g = declared_back s (monotype_of s.body) c refl ∙ one_canonical (monotype_of s.body) t g.0 g.1

-- two canonical schemes that are equally general are equal
pub one_scheme : (s t : TypeScheme) → IsCanonical s → IsCanonical t → AreEquallyGeneral (scheme_of s) (scheme_of t) → s ≡ t
one_scheme s t c d g = declared_as s (monotype_of t.body) c g ∙ sym (declared_back t (monotype_of t.body) d refl)
