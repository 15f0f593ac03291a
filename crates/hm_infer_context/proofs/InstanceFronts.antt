-- An instance of a scheme is taken apart as the scheme is written.
use Rattle.std.proofs.Common.{◌≡◌, ℕ, suc, ◌++◌, ◌∷◌, [], List, false, length, refl, sym, ap, ◌∙◌, subst, arith}
use Rattle.hm_types.specs.declared.Head.TheVariants as head
use Rattle.hm_types.specs.declared.monotypes.Ty.{Ty}
use Rattle.hm_types.specs.Shape.{type_of}
use Rattle.hm_types.specs.Types.{App, done, more, put}
use Rattle.hm_types.specs.Monotypes.{Mono}
use Rattle.hm_types.specs.Schemes.{TypeScheme, IsScheme}
use Rattle.hm_typing.specs.Schemes.{Monotype}
use Rattle.hm_typing.specs.Problems.{FactsBelow}
use Rattle.hm_typing.specs.Programs.{monotype_of}
use Rattle.hm_unify.specs.Solving.{Solving}
use Rattle.hm_unify.specs.WellFormed.{IsWellFormed, EquationsAreWellFormed}
use Rattle.hm_infer_context.specs.Problems.{problem, bound, given_more}
use Rattle.hm_infer_context.specs.Environments.{opened}
use Rattle.hm_infer_context.specs.ConstructorParts.{AreGivenTypes, IsFrontFound}
use Rattle.hm_infer_context.proofs.ConstructorParts.{front_none, front_pushed, one_longer}
use Rattle.hm_infer_context.proofs.Inferred.{declared_inferred, instance_inferred, parts_given, parts_taken}
use Rattle.hm_infer_context.proofs.Opened.{declared_given, instance_given}

-- before any argument
module _ (s s1 : Solving) (scheme : TypeScheme) (q base : ℕ) (body : Mono) (valid : IsScheme scheme) (vars : q ≡ scheme.vars) (is : body ≡ scheme.body) (next : s1 ≡ given_more s q) (first : base ≡ s.given) where
  pub front_begin : (ts : List Ty) → ts ≡ [] → FactsBelow (bound s) (problem s) → EquationsAreWellFormed s1.given s1.equations → IsFrontFound (monotype_of scheme.body) (length ts) s s1 ts (put (opened false q base) body)
  front_begin ts none below w =
      let u = put (opened false q base) body in
      let inferred = declared_inferred s s1 scheme q body u valid vars is (instance_inferred s s1 q base body u (declared_given s scheme q body valid vars is) below w next first refl) in
      subst (λ n. IsFrontFound (monotype_of scheme.body) n s s1 ts u) (sym (ap length none)) (front_none (monotype_of scheme.body) s s1 ts u none inferred)

  pub rest_begin : IsWellFormed s1.given (put (opened false q base) body)
  rest_begin = instance_given s s1 q base body (put (opened false q base) body) next first refl (declared_given s scheme q body valid vars is)

-- one argument more
module _ (q base : ℕ) (rest argument outcome : Ty) (is : type_of rest ≡ App head.Arrow (more (type_of argument) (more (type_of outcome) done))) where
  opened_is : put (opened false q base) (type_of rest) ≡ App head.Arrow (more (put (opened false q base) (type_of argument)) (more (put (opened false q base) (type_of outcome)) done))
  opened_is = ap (put (opened false q base)) is

  pub front_step : (s : Monotype) (s0 s1 : Solving) (ts us : List Ty) (made : Ty) → FactsBelow (bound s1) (problem s1) → type_of made ≡ put (opened false q base) (type_of argument) → us ≡ ts ++ made ∷ [] → AreGivenTypes s1.given ts →
      IsFrontFound s (length ts) s0 s1 ts (put (opened false q base) (type_of rest)) → IsFrontFound s (length us) s0 s1 us (put (opened false q base) (type_of outcome))
  front_step s s0 s1 ts us made below m e w a =
      let longer : length us ≡ suc (length ts) = (let k = one_longer ts us made (length ts) e refl in omega (arith, k)) in
      front_pushed s (length ts) (length us) s0 s1 s1 ts us (put (opened false q base) (type_of rest)) made (put (opened false q base) (type_of outcome)) e longer w a
      (parts_taken s1 (put (opened false q base) (type_of rest)) (type_of made) (put (opened false q base) (type_of outcome)) below (opened_is ∙ ap (λ z. App head.Arrow (more z (more (put (opened false q base) (type_of outcome)) done))) (sym m)))

  pub parts_step : (g : ℕ) → IsWellFormed g (put (opened false q base) (type_of rest)) → IsWellFormed g (put (opened false q base) (type_of argument)) × IsWellFormed g (put (opened false q base) (type_of outcome))
  parts_step g w = parts_given g (put (opened false q base) (type_of rest)) (put (opened false q base) (type_of argument)) (put (opened false q base) (type_of outcome)) w opened_is
