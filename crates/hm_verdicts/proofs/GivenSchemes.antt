-- A core whose list is typed has canonical schemes that are as general as its principal ones.
use Rattle.std.proofs.Common.{◌≡◌, ℕ, List, Option, Some, ⊎_elim, refl, sym, ap, subst}
use Rattle.hm_types.specs.declared.Entity.{Entity}
use Rattle.hm_types.specs.Interfaces.{Exports as Interface}
use Rattle.hm_types.specs.Monotypes.{Mono, Monos, var, rigid}
use Rattle.hm_types.specs.Schemes.{TypeScheme, HasNoRigid, AllHaveNoRigid, canonical_of, numbering, variables}
use Rattle.hm_types.specs.Substitution.{substitute, substitute_all}
use Rattle.hm_types.specs.Types.{Var, App, done, more}
use Rattle.hm_types.proofs.Renamed.{has_instances, renamed_have_one_scheme}
use Rattle.hm_types.proofs.Substitution.{subst_var}
use Rattle.hm_typing.specs.BindingLists.{HasSchemes, HasPrincipalSchemes}
use Rattle.hm_typing.specs.Names.{Identifier, global}
use Rattle.hm_typing.specs.Programs.{scheme_of}
use Rattle.hm_typing.specs.Schemes.{Monotype, Scheme, closed, IsAtMostAsGeneral}
use Rattle.hm_typing.proofs.ModuleSets.{body_of, body_in}
use Rattle.hm_typing.proofs.Ordering.{layout}
use Rattle.hm_typing.proofs.Principal.{principal}
use Rattle.hm_typing.proofs.Programs.{decided}
use Rattle.hm_typing.proofs.Unifying.{unification}
use Rattle.hm_syntax.specs.declared.ast.Module.{Module}
use Rattle.hm_names.specs.Cores.{IsCore, IsTop, assumptions, syntax_of}
use Rattle.hm_names.specs.Entities.{named}
use Rattle.hm_names.specs.ModuleCores.{ModuleCore}
use Rattle.hm_names.specs.Types.{declared_scheme}
use Rattle.hm_names.proofs.Elaboration.{assumes_closed}
use Rattle.hm_names.proofs.TopEntities.{top_is_bound}
use Rattle.hm_verdicts.specs.ModuleVerdicts.{ArePrincipal, IsCanonical, AreEquallyGeneral}
use Rattle.hm_verdicts.proofs.CanonicalSchemes.{program, program_back, no_rigid, with_body}

-- Canonical schemes

mutual
  still_plain : (xs : List ℕ) (t : Mono) → HasNoRigid t → HasNoRigid (substitute (numbering xs) t)
  still_plain xs (Var (var n)) h = tt
  still_plain xs (Var (rigid n)) h = absurd h
  still_plain xs (App k ts) h = all_still_plain xs ts h

  all_still_plain : (xs : List ℕ) (ts : Monos) → AllHaveNoRigid ts → AllHaveNoRigid (substitute_all (numbering xs) ts)
  all_still_plain xs done h = tt
  all_still_plain xs (more t ts) h = (still_plain xs t h.0, all_still_plain xs ts h.1)

pub is_canonical : (t : Monotype) → IsCanonical (declared_scheme t)
is_canonical t =
    let p = program t in
    let back = (has_instances p p).1 ((λ n. Var (var n)), subst_var p) in
    record {
      not_rigid = still_plain (variables p) p (no_rigid t);
      numbered = (renamed_have_one_scheme p (canonical_of p).body).0 (record { there = numbering (variables p); made = refl; back = back.0; made_back = back.1 });
    }

pub equally_general : (t : Monotype) → AreEquallyGeneral (closed t) (scheme_of (declared_scheme t))
equally_general t =
    let p = program t in
    let s = declared_scheme t in
    let plain = still_plain (variables p) p (no_rigid t) in (
      subst (λ z. IsAtMostAsGeneral (closed z) (scheme_of s)) (program_back t) ((decided (with_body p) s (no_rigid t) plain).0 (λ u i. (has_instances p u).1 i)),
      subst (λ z. IsAtMostAsGeneral (scheme_of s) (closed z)) (program_back t) ((decided s (with_body p) plain (no_rigid t)).0 (λ u i. (has_instances p u).0 i)),
    )

-- The schemes that are given

module _ (m : Module) (fs : List Interface) (c : ModuleCore) (is : IsCore m fs c) where
  from_principal : (B : Identifier → Scheme) → HasPrincipalSchemes (assumptions c) (syntax_of c) B → (given : List ℕ → Option TypeScheme) × ArePrincipal c given
  from_principal B p = (given, record { schemes = B; principal = p; each = each })
    where
      type_of : Identifier → Monotype
      type_of x = body_of (syntax_of c) p.typed.types (λ y. Var 0) x

      given : List ℕ → Option TypeScheme
      given x = Some (declared_scheme (type_of (global (named c.name x))))

      each : (e : Entity) → IsTop c e → (s : TypeScheme) × ((given e.name ≡ Some s) × IsCanonical s × AreEquallyGeneral (B (global e)) (scheme_of s))
      each e top =
          let t = type_of (global e) in
          let home : named c.name e.name ≡ e = ap (λ z. named z e.name) (sym ((top_is_bound m fs c is e).0 top).0) in
          let b : B (global e) ≡ closed t = body_in (assumptions c) (assumes_closed c) _ p.typed.types B (λ y. Var 0) (syntax_of c) p.typed.bindings (global e) top in (
            declared_scheme t,
            (ap (λ d. Some (declared_scheme (type_of (global d)))) home, is_canonical t, subst (λ σ. AreEquallyGeneral σ (scheme_of (declared_scheme t))) (sym b) (equally_general t)),
          )

  pub typed_have_principal : (B : Identifier → Scheme) → HasSchemes (assumptions c) (syntax_of c) B → (given : List ℕ → Option TypeScheme) × ArePrincipal c given
  typed_have_principal B l = ⊎_elim (λ p. from_principal p.0 p.1) (λ never. absurd (never B l)) (principal unification layout (syntax_of c) (assumptions c) (assumes_closed c))
