-- A list that is inferred under closed assumptions has its principal schemes, or no typing.
use Rattle.std.proofs.Common.{◌≡◌, ℕ, List, [], false, IsErrAnd, Result, Ok, Err, sym, ap, ◌∙◌, subst, ◌↔◌, arith}
use Rattle.hm_types.specs.Types.{Var, In, put}
use Rattle.hm_typing.specs.Names.{Identifier, IsOneOf}
use Rattle.hm_typing.specs.Schemes.{Monotype, Scheme, Free, scheme_put, IsAtMostAsGeneral}
use Rattle.hm_typing.specs.Assumptions.{Assumptions, IsClosed, FreeIn, Has, assumptions_put, bind_all}
use Rattle.hm_typing.specs.Syntax.{Bindings, names}
use Rattle.hm_typing.specs.BindingLists.{HasSchemes, HasPrincipalSchemes}
use Rattle.hm_typing.specs.SecondForm.{DerivedSchemes}
use Rattle.hm_typing.specs.Problems.{Unifies, MostGeneralUnifier}
use Rattle.hm_typing.proofs.SchemeLaws.{scheme_put-agree, scheme_put_put, scheme_put_Var}
use Rattle.hm_typing.proofs.Bind.{Has-bind_all, assumptions_put-bind_all}
use Rattle.hm_typing.proofs.Principal.{assumptions_put_closed, DerivedUnits-Has, Has-DerivedUnits}
use Rattle.hm_unify.specs.Solving.{Solving}
use Rattle.hm_infer_context.specs.Problems.{problem}
use Rattle.hm_infer_expressions.specs.Lists.{IsListed, IsBound, RefusesList, AreAlike, IsWritten}
use Rattle.hm_infer_context.specs.Environments.{Assumed, assumptions, AreAssumed}
use Rattle.hm_infer_expressions.specs.PrincipalLists.{IsInferred, Inferred}
use Rattle.hm_infer_context.proofs.FoundNames.{assumed_below}
use Rattle.hm_unify.specs.declared.faults.UnifyFault.{UnifyFault}
use Rattle.hm_unify.specs.declared.faults.UnifyFault.TheVariants.{Clash, Memory}

-- the assumptions of an environment without free variables are closed
pub closed_assumptions : (es : List Assumed) → AreAssumed 0 es → IsClosed (assumptions es)
closed_assumptions es a x f = let h = assumed_below 0 es a x f in omega arith

-- the schemes found are as general as the principal ones
pub record IsPrincipalList (A : Assumptions) (ds : Bindings) (C : Identifier → Scheme) : Type 0 where
  pub schemes : Identifier → Scheme
  pub principal : HasPrincipalSchemes A ds schemes
  pub found : (x : Identifier) → IsOneOf x (names ds) → IsAtMostAsGeneral (C x) (schemes x)
  pub back : (x : Identifier) → IsOneOf x (names ds) → IsAtMostAsGeneral (schemes x) (C x)

module _ (A : Assumptions) (ds : Bindings) (B : Identifier → Scheme) (s s' : Solving) (shut : IsClosed A) (l : IsListed A ds B s s') (m : MostGeneralUnifier (problem s')) where
  same : (r : ℕ → Monotype) → assumptions_put r A ≡ A
  same r = assumptions_put_closed r A shut

  abbrev solved : Identifier → Scheme
  solved x = scheme_put m.map (B x)

  no_free : (x : Identifier) → IsOneOf x (names ds) → (a : ℕ) → ¬ (In (Free a) (solved x))
  no_free x o a i = shut a (subst (FreeIn a) (same m.map) (l.inner m.map m.unifies x o a i))

  -- every unifier puts the same for the free variables of the schemes
  one : (q : ℕ → Monotype) → Unifies q (problem s') → (x : Identifier) → IsOneOf x (names ds) → scheme_put q (B x) ≡ solved x
  one q u x o =
      scheme_put-agree q (λ a. put q (m.map a)) (B x) (λ a i. sym (m.most q u a))
      ∙ (sym (scheme_put_put q m.map (B x)) ∙ (scheme_put-agree q Var (solved x) (λ a i. absurd (no_free x o a i)) ∙ scheme_put_Var (solved x)))

  most : (B' : Identifier → Scheme) → HasSchemes A ds B' → (x : Identifier) → IsOneOf x (names ds) → IsAtMostAsGeneral (B' x) (solved x)
  most B' h x o =
      let u = (l.sound m.map m.unifies).0 in
      let c = l.complete m.map u B' (subst (λ C. DerivedSchemes C ds B') (sym (same m.map)) (DerivedUnits-Has ds A B' h)) in
      subst (IsAtMostAsGeneral (B' x)) (one c.0 c.2 x o) (c.3 x o)

  pub principal_list : IsPrincipalList A ds (λ x. scheme_put m.map (B x))
  principal_list =
      let k = Has-DerivedUnits ds A solved (subst (λ C. DerivedSchemes C ds solved) (same m.map) (l.sound m.map m.unifies).1) in
      record {
        schemes = k.0;
        principal = record { typed = k.1; most = λ B' h x o t i. k.2 x o t (most B' h x o t i) };
        found = k.2;
        back = λ x o. most k.0 k.1 x o;
      }

  -- what a name has in the environment is what it has by its principal scheme
  pub has_principal : (C : Assumptions) → AreAlike C (bind_all (names ds) B A) → (p : IsPrincipalList A ds (λ x. scheme_put m.map (B x))) → (x : Identifier) → IsWritten x → (t : Monotype) → Has (assumptions_put m.map C) x t ↔ Has (bind_all (names ds) p.schemes A) x t
  has_principal C a p x w t =
      let e : assumptions_put m.map (bind_all (names ds) B A) ≡ bind_all (names ds) solved A = assumptions_put-bind_all m.map (names ds) B A ∙ ap (bind_all (names ds) solved) (same m.map) in
      let k = a m.map x w t in (
        (λ h. Has-bind_all (names ds) solved p.schemes A A x (λ o v i. p.found x o v i) (λ n v j. j) t (subst (λ G. Has G x t) e (k.0 h))),
        (λ h. k.1 (subst (λ G. Has G x t) (sym e) (Has-bind_all (names ds) p.schemes solved A A x (λ o v i. p.back x o v i) (λ n v j. j) t h))),
      )

pub inferred_list : (ds : Bindings) (es es' : List Assumed) (s s' : Solving) → AreAssumed 0 es → IsBound ds s es s' es' → MostGeneralUnifier (problem s') → IsInferred ds es es'
inferred_list ds es es' s s' a b m =
    let shut = closed_assumptions es a in
    let p = principal_list (assumptions es) ds b.schemes s s' shut b.listed m in
    record { schemes = p.schemes; principal = p.principal; map = m.map; seen = λ x w t. has_principal (assumptions es) ds b.schemes s s' shut b.listed m (assumptions es') b.assumed p x w t }

-- no equation was there before
refusal : (X : Type 0) (ds : Bindings) (es es' : List Assumed) (s : Solving) (e : UnifyFault) → AreAssumed 0 es → s ≡ record { equations = []; given = 0; failed = false; opened = [] } → RefusesList ds s es e → Inferred {X = X} ds es es' (Err e)
refusal X ds es es' s Memory a k n = tt
refusal X ds es es' s Clash a k n = λ B h. n Var (subst (λ z. Unifies Var (problem z)) (sym k) tt) B (subst (λ C. DerivedSchemes C ds B) (sym (assumptions_put_closed Var (assumptions es) (closed_assumptions es a))) (DerivedUnits-Has ds (assumptions es) B h))

pub list_refused : {X : Type 0} (ds : Bindings) (es es' : List Assumed) (s : Solving) (e : UnifyFault) (outcome : Result X UnifyFault) → AreAssumed 0 es → s ≡ record { equations = []; given = 0; failed = false; opened = [] } → RefusesList ds s es e → IsErrAnd outcome (λ y. y ≡ e) → Inferred ds es es' outcome
list_refused {X} ds es es' s e (Ok x) a k n i = absurd i
list_refused {X} ds es es' s e (Err y) a k n i = refusal X ds es es' s y a k (subst (RefusesList ds s es) (sym i) n)
