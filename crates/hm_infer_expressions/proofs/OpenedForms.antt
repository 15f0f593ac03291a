-- Functions are opened, and their bodies checked.
use Rattle.std.proofs.Common.{◌≡◌, ℕ, ◌-◌, ◌<◌, false, List, [], ◌∷◌, length, Result, Ok, Err, refl, sym, ap, ◌∙◌, subst, subst₂, arith, true≢false}
use Rattle.hm_types.specs.Types.{put}
use Rattle.hm_types.specs.Monotypes.{Mono}
use Rattle.hm_syntax.specs.Trees as tree
use Rattle.hm_syntax.specs.Lists.{patterns, declarations}
use Rattle.hm_typing.specs.Names.{Identifier, local, global, binding}
use Rattle.hm_typing.specs.Mentions.{Mentions, RightSidesMention, BindingsMention}
use Rattle.hm_infer_dependencies.proofs.Named.{IsOwnName}
use Rattle.hm_infer_dependencies.proofs.Reached.{never, never_bodies, never_list}
use Rattle.hm_typing.specs.Schemes.{Monotype, monomorphic, scheme_put}
use Rattle.hm_typing.specs.Assumptions.{Assumptions, Has, bind_all, assumptions_put}
use Rattle.hm_typing.specs.Syntax.{Patterns, patterns_names, bool, Bindings, no_binding, names}
use Rattle.hm_typing.specs.Typing.{HasFunction, HasLocal}
use Rattle.hm_typing.specs.SecondForm.{Derives, DerivedSchemes}
use Rattle.hm_typing.proofs.Bind.{assumptions_put-bind_all, bind_all-agree}
use Rattle.hm_typing.proofs.Bridge.{more-all}
use Rattle.hm_typing.proofs.More.{Derives-more}
use Rattle.hm_typing.specs.Problems.{Unifies, FactsBelow, IsLocal}
use Rattle.hm_typing.proofs.Solve.{put-below}
use Rattle.hm_typing.proofs.Put.{assumptions_put-bind_mono}
use Rattle.hm_typing.proofs.SchemeLaws.{assumptions_put-agree}
use Rattle.hm_unify.specs.Solving.{Solving}
use Rattle.hm_unify.specs.WellFormed.{IsWellFormed}
use Rattle.hm_unify.specs.declared.faults.UnifyFault.{UnifyFault}
use Rattle.hm_unify.specs.declared.faults.UnifyFault.TheVariants.{Clash, Memory}
use Rattle.hm_infer_context.specs.Problems.{monotype, problem, bound, Answers, Refuses}
use Rattle.hm_infer_context.specs.Environments.{Assumed, assumptions, AreAssumed}
use Rattle.hm_infer_context.specs.Functions.{IsOpened, RefusesOpening}
use Rattle.hm_infer_expressions.specs.Lists.{IsWritten, IsBound, RefusesList, Listed}
use Rattle.hm_names.specs.Syntax.{expression_of, bodies_of, bindings_of, Known, patterns_of}
use Rattle.hm_syntax.specs.Trees.{Expression, lambda, let_expression, Declarations}
use Rattle.hm_infer_context.proofs.Leaves.{monotype-below}
use Rattle.hm_infer_context.proofs.Outcomes.{pass_on}
use Rattle.hm_infer_context.proofs.FoundNames.{assumed_below}
use Rattle.hm_infer_expressions.proofs.Derived.{Checks, AnswersExpression}

-- the body

module _ (J : Assumptions → Monotype → Type 0) where
  abbrev pub Functions : Patterns → Monotype → List Assumed → (ℕ → Monotype) → Type 0
  Functions ps v es r = HasFunction (assumptions_put r (assumptions es)) ps (put r v) J

  abbrev pub Bodies : Mono → List Assumed → (ℕ → Monotype) → Type 0
  Bodies n es r = J (assumptions_put r (assumptions es)) (put r (monotype n))

  seen_body : (ps : Patterns) (v : Monotype) (n : Mono) (s s1 : Solving) (es es1 : List Assumed) (o : IsOpened ps v n s es s1 es1) (r : ℕ → Monotype) → assumptions_put r (assumptions es1) ≡ bind_all (patterns_names ps) (λ x. monomorphic (put r (o.types x))) (assumptions_put r (assumptions es))
  seen_body ps v n s s1 es es1 o r = ap (assumptions_put r) o.assumed ∙ assumptions_put-bind_mono r (patterns_names ps) o.types (assumptions es)

  body_carries : (ps : Patterns) (v : Monotype) (n : Mono) (s s1 : Solving) (es es1 : List Assumed) → AreAssumed s.given es → IsOpened ps v n s es s1 es1 → (r : ℕ → Monotype) → Unifies r (problem s) → Functions ps v es r →
      (q : ℕ → Monotype) × ((x : ℕ) → x < bound s → q x ≡ r x) × Unifies q (problem s1) × Bodies n es1 q
  body_carries ps v n s s1 es es1 a o r u p =
      let c = o.complete r p.variables p.parameters p.result u p.function p.matched in (
        c.0,
        c.1,
        c.2,
        subst₂ J
            (bind_all-agree (patterns_names ps) _ _ _ _ (λ x k. ap monomorphic (sym (c.3 x k))) (assumptions_put-agree r c.0 (assumptions es) (λ y z. sym (c.1 y (assumed_below s.given es a y z)))) ∙ sym (seen_body ps v n s s1 es es1 o c.0))
            (sym c.4) p.body,
      )

  pub function_answers : {X : Type 0} (ps : Patterns) (v : Monotype) (n : Mono) (s s1 s2 : Solving) (es es1 : List Assumed) (outcome : Result X UnifyFault) → AreAssumed s.given es → IsOpened ps v n s es s1 es1 → Answers (Bodies n es1) s1 s2 outcome → Answers (Functions ps v es) s s2 outcome
  function_answers ps v n s s1 s2 es es1 (Ok x) a o m = record {
    grows = (let g = o.grows in let h = m.grows in omega arith);
    below = m.below;
    sound = λ r u.
        let b = m.sound r u in
        let c = o.sound r b.0 in (
          c.0,
          record {
            variables = λ y. put r (o.types y);
            parameters = c.1.0;
            result = put r (monotype n);
            function = c.1.1.0;
            matched = c.1.1.1;
            body = subst (λ C. J C (put r (monotype n))) (seen_body ps v n s s1 es es1 o r) b.1;
          },
        );
    complete = λ r u p.
        let c = body_carries ps v n s s1 es es1 a o r u p in
        let d = m.complete c.0 c.2 c.3 in
        (d.0, (λ y k. d.1 y (let g = o.grows in omega arith) ∙ c.1 y k), d.2);
  }
  function_answers ps v n s s1 s2 es es1 (Err e) a o m =
      pass_on {P = Functions ps v es} {Q = Bodies n es1} s s1 e (λ r u p. (let c = body_carries ps v n s s1 es es1 a o r u p in (c.0, c.2, c.3))) m

  pub function_refused : (ps : Patterns) (v : Monotype) (s : Solving) (es : List Assumed) (e : UnifyFault) → RefusesOpening ps v s e → Refuses (Functions ps v es) s e
  function_refused ps v s es Clash n = λ r u p. n r p.variables p.parameters p.result u p.function p.matched
  function_refused ps v s es Memory n = tt

-- a lambda

pub lambda_answers : {X : Type 0} (known : Known) (ps : List tree.Pattern) (e : Expression) (t : Mono) (n : Mono) (s s1 s2 : Solving) (es es1 : List Assumed) (outcome : Result X UnifyFault) → AreAssumed s.given es → IsOpened (patterns_of known (patterns ps)) (monotype t) n s es s1 es1 →
    AnswersExpression known e n es1 s1 s2 outcome → AnswersExpression known (lambda (patterns ps) e) t es s s2 outcome
lambda_answers known ps e t n s s1 s2 es es1 outcome a o m = function_answers (λ C u. Derives C (expression_of known e) u) (patterns_of known (patterns ps)) (monotype t) n s s1 s2 es es1 outcome a o m

pub lambda_refused : (known : Known) (ps : List tree.Pattern) (e : Expression) (t : Mono) (s : Solving) (es : List Assumed) (k : UnifyFault) → RefusesOpening (patterns_of known (patterns ps)) (monotype t) s k → Refuses (Checks known (lambda (patterns ps) e) t es) s k
lambda_refused known ps e t s es k n = function_refused (λ C u. Derives C (expression_of known e) u) (patterns_of known (patterns ps)) (monotype t) s es k n

-- What is mentioned can be written

is_written : (x : Identifier) → ¬ (IsOwnName x) → IsWritten x
is_written (local x) n = tt
is_written (global e) n = tt
is_written (binding m k) n = absurd (n tt)

pub written : (known : Known) (e : Expression) (x : Identifier) → Mentions x (expression_of known e) → IsWritten x
written known e x m = is_written x (λ o. never known x o e m)

pub written_bodies : (known : Known) (gs : tree.Bodies) (x : Identifier) → RightSidesMention x (bodies_of known gs) → IsWritten x
written_bodies known gs x m = is_written x (λ o. never_bodies known x o gs m)

pub written_list : (known : Known) (all ds : Declarations) (x : Identifier) → BindingsMention x (bindings_of known all ds) → IsWritten x
written_list known all ds x m = is_written x (λ o. never_list known x o all ds m)

-- A list, and what follows it

module _ (J : Assumptions → (ℕ → Monotype) → Type 0) (J-more : (r : ℕ → Monotype) (C C' : Assumptions) → ((x : Identifier) → IsWritten x → (t : Monotype) → Has C x t → Has C' x t) → J C r → J C' r) where
  abbrev pub Locals : Bindings → List Assumed → (ℕ → Monotype) → Type 0
  Locals ds es r = HasLocal (assumptions_put r (assumptions es)) ds (λ B. DerivedSchemes (assumptions_put r (assumptions es)) ds B) (λ C. J C r)

  abbrev pub Bodied : List Assumed → (ℕ → Monotype) → Type 0
  Bodied es r = J (assumptions_put r (assumptions es)) r

  local_carries : (n : ℕ) (ds : Bindings) (s s1 : Solving) (es es1 : List Assumed) → n ≡ bound s → ((C : Assumptions) → IsLocal n (J C)) → AreAssumed s.given es → IsBound ds s es s1 es1 → (r : ℕ → Monotype) → Unifies r (problem s) → Locals ds es r →
      (q : ℕ → Monotype) × ((x : ℕ) → x < bound s → q x ≡ r x) × Unifies q (problem s1) × Bodied es1 q
  local_carries n ds s s1 es es1 e l a b r u p =
      let c = b.listed.complete r u p.schemes p.listed in
      let env : assumptions_put c.0 (bind_all (names ds) b.schemes (assumptions es)) ≡ bind_all (names ds) (λ x. scheme_put c.0 (b.schemes x)) (assumptions_put r (assumptions es)) =
      assumptions_put-bind_all c.0 (names ds) b.schemes (assumptions es) ∙ ap (bind_all (names ds) (λ x. scheme_put c.0 (b.schemes x))) (assumptions_put-agree c.0 r (assumptions es) (λ y z. c.1 y (assumed_below s.given es a y z))) in (
        c.0,
        c.1,
        c.2,
        J-more c.0 _ _
            (λ x w t h. (b.assumed c.0 x w t).1 (subst (λ C. Has C x t) (sym env) (more-all (names ds) p.schemes (λ z. scheme_put c.0 (b.schemes z)) _ _ c.3 (λ z v i. i) x t h)))
            (l _ r c.0 (λ x h. c.1 x (subst (λ k. x < k) e h)) p.body),
      )

  pub local_answers : {X : Type 0} (ds : Bindings) (s s1 s2 : Solving) (es es1 : List Assumed) (outcome : Result X UnifyFault) → ((C : Assumptions) → IsLocal (bound s) (J C)) → AreAssumed s.given es → IsBound ds s es s1 es1 → Answers (Bodied es1) s1 s2 outcome → Answers (Locals ds es) s s2 outcome
  local_answers ds s s1 s2 es es1 (Ok x) l a b m = record {
    grows = (let g = b.listed.grows in let h = m.grows in omega arith);
    below = m.below;
    sound = λ r u.
        let d = m.sound r u in
        let c = b.listed.sound r d.0 in
        (c.0, record { schemes = λ y. scheme_put r (b.schemes y); listed = c.1; body = J-more r _ _ (λ x w t h. subst (λ C. Has C x t) (assumptions_put-bind_all r (names ds) b.schemes (assumptions es)) ((b.assumed r x w t).0 h)) d.1 });
    complete = λ r u p.
        let c = local_carries (bound s) ds s s1 es es1 refl l a b r u p in
        let d = m.complete c.0 c.2 c.3 in
        (d.0, (λ y k. d.1 y (let g = b.listed.grows in omega arith) ∙ c.1 y k), d.2);
  }
  local_answers ds s s1 s2 es es1 (Err e) l a b m =
      pass_on {P = Locals ds es} {Q = Bodied es1} s s1 e (λ r u p. (let c = local_carries (bound s) ds s s1 es es1 refl l a b r u p in (c.0, c.2, c.3))) m

  pub local_refused : (ds : Bindings) (s : Solving) (es : List Assumed) (e : UnifyFault) → RefusesList ds s es e → Refuses (Locals ds es) s e
  local_refused ds s es Clash n = λ r u p. n r u p.schemes p.listed
  local_refused ds s es Memory n = tt

pub let_answers : {X : Type 0} (known : Known) (ds : Declarations) (e : Expression) (t : Mono) (s s1 s2 : Solving) (es es1 : List Assumed) (outcome : Result X UnifyFault) → AreAssumed s.given es → IsWellFormed s.given t → IsBound (bindings_of known ds ds) s es s1 es1 →
    AnswersExpression known e t es1 s1 s2 outcome → AnswersExpression known (let_expression ds e) t es s s2 outcome
let_answers known ds e t s s1 s2 es es1 outcome a w b m =
    local_answers (λ C r. Derives C (expression_of known e) (put r (monotype t))) (λ r C C' i p. Derives-more (expression_of known e) C C' (put r (monotype t)) (λ x j. i x (written known e x j)) p) (bindings_of known ds ds) s s1 s2 es es1 outcome
    (λ C r q f p. subst (Derives C (expression_of known e)) (put-below (bound s) r q (monotype t) f (monotype-below s.given t w)) p) a b m

pub let_refused : (known : Known) (ds : Declarations) (e : Expression) (t : Mono) (s : Solving) (es : List Assumed) (k : UnifyFault) → RefusesList (bindings_of known ds ds) s es k → Refuses (Checks known (let_expression ds e) t es) s k
let_refused known ds e t s es k n =
    local_refused (λ C r. Derives C (expression_of known e) (put r (monotype t))) (λ r C C' i p. Derives-more (expression_of known e) C C' (put r (monotype t)) (λ x j. i x (written known e x j)) p) (bindings_of known ds ds) s es k n

-- an empty list

pub empty_bound : (s : Solving) (es : List Assumed) → FactsBelow (bound s) (problem s) → AreAssumed s.given es → IsBound no_binding s es s es
empty_bound s es b a = record {
  schemes = λ x. monomorphic bool;
  added = [];
  entries = refl;
  assumed = λ r x w t. ((λ h. h), (λ h. h));
  given = a;
  listed = record {
    grows = omega arith;
    below = b;
    schemes_below = λ x o. absurd o;
    inner = λ r u x o. absurd o;
    sound = λ r u. (u, record { own = λ x y. false; units = (tt, λ x y. ((λ e. absurd (true≢false (sym e))), (λ p. absurd p.0))); bindings = tt });
    complete = λ r u B d. (r, (λ x h. refl), u, (λ x o. absurd o));
  };
}

pub empty_listed : {X : Type 0} (known : Known) (ds : List tree.Declaration) (s : Solving) (es : List Assumed) (x : X) → ds ≡ [] → FactsBelow (bound s) (problem s) → AreAssumed s.given es → Listed {X = X} (bindings_of known (declarations ds) (declarations ds)) s es s es (Ok x)
empty_listed known ds s es x e b a = subst (λ z. IsBound (bindings_of known (declarations z) (declarations z)) s es s es) (sym e) (empty_bound s es b a)

pub none_of : {A : Type 0} (xs : List A) → length xs ≡ 0 → xs ≡ []
none_of [] e = refl
none_of (x ∷ xs) e = absurd (omega arith)
