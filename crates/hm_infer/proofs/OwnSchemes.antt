-- The canonical schemes of a module's own variables.
use Rattle.std.proofs.Common.{◌≡◌, ℕ, ◌+◌, List, [], ◌∷◌, Option, Some, inl, inr, ⊎_elim, ◌↔◌, refl, sym, subst}
use Rattle.hm_types.specs.Schemes.{TypeScheme}
use Rattle.hm_types.specs.Types.{Var}
use Rattle.hm_types.specs.declared.Entity.{Entity}
use Rattle.hm_types.specs.Interfaces.{Exports as Interface}
use Rattle.hm_typing.specs.Names.{Identifier, global}
use Rattle.hm_typing.specs.Assumptions.{Has, assumptions_put}
use Rattle.hm_typing.specs.Schemes.{Monotype, IsInstance, instance, scheme_put}
use Rattle.hm_typing.specs.Programs.{scheme_of}
use Rattle.hm_typing.specs.Syntax.{names}
use Rattle.hm_typing.proofs.Bind.{Has-Sees, Sees-Has}
use Rattle.hm_typing.proofs.Names.{name_discrete}
use Rattle.hm_unify.specs.WellFormed.{IsWellFormed}
use Rattle.hm_syntax.specs.declared.ast.Module.{Module}
use Rattle.hm_names.specs.Cores.{IsCore, IsTop, syntax_of}
use Rattle.hm_names.specs.Cores as cores
use Rattle.hm_names.specs.ModuleCores.{ModuleCore}
use Rattle.hm_names.proofs.TopEntities.{top_is_bound}
use Rattle.hm_verdicts.specs.ModuleVerdicts.{ArePrincipal, IsCanonical, AreEquallyGeneral}
use Rattle.hm_infer_context.specs.Environments.{Assumed, AreAssumed, OpenScheme, IsSchemeOf, assumptions, scheme_in}
use Rattle.hm_infer_expressions.specs.OwnSchemes.{HaveCanonical, canonical_scheme}
use Rattle.hm_infer_expressions.specs.PrincipalLists.{IsInferred}
use Rattle.hm_infer_expressions.proofs.CanonicalSchemes.{canonical_instances, canonical_whole, in_order_canonical}

abbrev own : List ℕ → List ℕ → Identifier
own home x = global (record { «module» = home; name = x })

-- What is assumed of a name, by its innermost assumption

assumed_scheme : (es : List Assumed) (x : Identifier) (s : OpenScheme) → AreAssumed 0 es → IsSchemeOf x s es → IsWellFormed (s.quantified + 0) s.body
assumed_scheme [] x s a i = absurd i
assumed_scheme (e ∷ es) x s a (inl p) = subst (λ z. IsWellFormed (z.quantified + 0) z.body) p.1 a.0
assumed_scheme (e ∷ es) x s a (inr p) = assumed_scheme es x s a.1 p.1

record Found (es : List Assumed) (r : ℕ → Monotype) (x : Identifier) : Type 0 where
  scheme : OpenScheme
  is : IsSchemeOf x scheme es
  has : (t : Monotype) → Has (assumptions_put r (assumptions es)) x t ↔ IsInstance t (scheme_put r (scheme_in scheme))

found_in : (es : List Assumed) (r : ℕ → Monotype) (x : Identifier) (t : Monotype) → Has (assumptions_put r (assumptions es)) x t → Found es r x
found_in [] r x t h = absurd h
found_in (e ∷ es) r x t h = at (name_discrete x e.name) h (found_in es r x t)
  where
    at : Dec (x ≡ e.name) → Has (assumptions_put r (assumptions (e ∷ es))) x t → (Has (assumptions_put r (assumptions es)) x t → Found es r x) → Found (e ∷ es) r x
    at (yes k) i f = record {
      scheme = e.scheme;
      is = inl (sym k, refl);
      has = λ v. ((λ j. ⊎_elim (λ p. p.1) (λ p. absurd (p.0 k)) j), (λ j. inl (k, j)));
    }
    at (no n) i f =
        let g = f (⊎_elim (λ p. absurd (n p.0)) (λ p. p.1) i) in
        record {
          scheme = g.scheme;
          is = inr ((λ k. n (sym k)), g.is);
          has = λ v. ((λ j. (g.has v).0 (⊎_elim (λ p. absurd (n p.0)) (λ p. p.1) j)), (λ j. inr (n, (g.has v).1 j)));
        }

-- They are as general as the principal ones

pub are_principal : (m : Module) (fs : List Interface) (c : ModuleCore) → IsCore m fs c → (es es1 : List Assumed) → assumptions es ≡ cores.assumptions c → AreAssumed 0 es1 → IsInferred (syntax_of c) es es1 → (given : List ℕ → Option TypeScheme) → HaveCanonical c.name es1 given → ArePrincipal c given
are_principal m fs c core es es1 base closed i given have = record {
  schemes = i.schemes;
  principal = subst (λ A. Rattle.hm_typing.specs.BindingLists.HasPrincipalSchemes A (syntax_of c) i.schemes) base i.principal;
  each = each;
}
  where
    each : (e : Entity) → IsTop c e → (s : TypeScheme) × ((given e.name ≡ Some s) × IsCanonical s × AreEquallyGeneral (i.schemes (global e)) (scheme_of s))
    each e top =
        let x : Identifier = global e in
        let home : e.«module» ≡ c.name = ((top_is_bound m fs c core e).0 top).0 in
        let t0 = instance (i.schemes (global e)) Var in
        let f = found_in es1 i.map (global e) t0 ((i.seen (global e) tt t0).1 (Sees-Has (names (syntax_of c)) i.schemes (assumptions es) (global e) t0 (inl (top, (Var, refl))))) in
        let w = assumed_scheme es1 (global e) f.scheme closed f.is in
        let here : IsSchemeOf (own c.name e.name) f.scheme es1 = subst (λ h. IsSchemeOf (own h e.name) f.scheme es1) home f.is in
        let whole = canonical_whole f.scheme w in (
          canonical_scheme f.scheme,
          (
            have e.name f.scheme here,
            record { not_rigid = whole.not_rigid; numbered = in_order_canonical (canonical_scheme f.scheme) whole },
            (
              (λ t j. (canonical_instances f.scheme w i.map t).0 ((f.has t).0 ((i.seen (global e) tt t).1 (Sees-Has (names (syntax_of c)) i.schemes (assumptions es) (global e) t (inl (top, j)))))),
              (λ t j. ⊎_elim (λ p. p.1) (λ p. absurd (p.0 top)) (Has-Sees (names (syntax_of c)) i.schemes (assumptions es) (global e) t ((i.seen (global e) tt t).0 ((f.has t).1 ((canonical_instances f.scheme w i.map t).1 j))))),
            ),
          ),
        )
