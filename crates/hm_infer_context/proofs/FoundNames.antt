-- What is assumed of a name that is found.
use Rattle.std.proofs.Common.{ℕ, ◌+◌, ◌≤◌, inl, inr, List, [], ◌∷◌, Result, Ok, Err, sym, ap, ◌∙◌, subst, arith}
use Rattle.hm_types.specs.Types.{put}
use Rattle.hm_types.specs.Monotypes.{Mono}
use Rattle.hm_typing.specs.Names.{Identifier, IsOneOf}
use Rattle.hm_typing.specs.Schemes.{Monotype, fill}
use Rattle.hm_typing.specs.Assumptions.{assumptions_put, Has}
use Rattle.hm_typing.proofs.SchemeLaws.{AssumptionsBelow, instance_put}
use Rattle.hm_unify.specs.Solving.{Solving}
use Rattle.hm_unify.specs.WellFormed.{IsWellFormed}
use Rattle.hm_unify.proofs.WellFormed.{well_formed_more}
use Rattle.hm_unify.specs.declared.faults.UnifyFault.{UnifyFault}
use Rattle.hm_infer_context.specs.Problems.{monotype, HasNone, Answers}
use Rattle.hm_infer_context.specs.Environments.{Assumed, OpenScheme, scheme_in, assumptions, AreAssumed, IsSchemeOf, assumed_names, IsInstanceUnder}
use Rattle.hm_infer_context.proofs.Outcomes.{solved_same, pass_on}
use Rattle.hm_infer_context.proofs.Opened.{HasInstance, free_below}

pub assumed_later : (g h : ℕ) (es : List Assumed) → g ≤ h → AreAssumed g es → AreAssumed h es
assumed_later g h [] l a = tt
assumed_later g h (e ∷ es) l a = (well_formed_more (e.scheme.quantified + g) (e.scheme.quantified + h) e.scheme.body (omega arith) a.0, assumed_later g h es l a.1)

pub assumed_below : (g : ℕ) (es : List Assumed) → AreAssumed g es → AssumptionsBelow (g + g) (assumptions es)
assumed_below g [] a n f = absurd f
assumed_below g (e ∷ es) a n (inl i) = free_below e.scheme.quantified g e.scheme.body a.0 n i
assumed_below g (e ∷ es) a n (inr f) = assumed_below g es a.1 n f

pub found_given : (g : ℕ) (x : Identifier) (s : OpenScheme) (es : List Assumed) → AreAssumed g es → IsSchemeOf x s es → IsWellFormed (s.quantified + g) s.body
found_given g x s [] a h = absurd h
found_given g x s (e ∷ es) a (inl h) = subst (λ k. IsWellFormed (k.quantified + g) k.body) h.1 a.0
found_given g x s (e ∷ es) a (inr h) = found_given g x s es a.1 h.1

-- the innermost scheme tells what a name has
pub found_has : (x : Identifier) (s : OpenScheme) (es : List Assumed) (r : ℕ → Monotype) (t : Monotype) → IsSchemeOf x s es → IsInstanceUnder s r t → Has (assumptions_put r (assumptions es)) x t
found_has x s [] r t h i = absurd h
found_has x s (e ∷ es) r t (inl h) i =
    inl (sym h.0, (i.0, i.1 ∙ (ap (λ k. put (fill r i.0) (scheme_in k)) (sym h.1) ∙ sym (instance_put r i.0 (scheme_in e.scheme)))))
found_has x s (e ∷ es) r t (inr h) i = inr ((λ k. h.0 (sym k)), found_has x s es r t h.1 i)

pub has_found : (x : Identifier) (s : OpenScheme) (es : List Assumed) (r : ℕ → Monotype) (t : Monotype) → IsSchemeOf x s es → Has (assumptions_put r (assumptions es)) x t → IsInstanceUnder s r t
has_found x s [] r t h i = absurd h
has_found x s (e ∷ es) r t (inl h) (inl i) = (i.1.0, i.1.1 ∙ (instance_put r i.1.0 (scheme_in e.scheme) ∙ ap (λ k. put (fill r i.1.0) (scheme_in k)) h.1))
has_found x s (e ∷ es) r t (inl h) (inr i) = absurd (i.0 (sym h.0))
has_found x s (e ∷ es) r t (inr h) (inl i) = absurd (h.0 (sym i.0))
has_found x s (e ∷ es) r t (inr h) (inr i) = has_found x s es r t h.1 i.1

pub has_named : (x : Identifier) (es : List Assumed) (r : ℕ → Monotype) (t : Monotype) → Has (assumptions_put r (assumptions es)) x t → IsOneOf x (assumed_names es)
has_named x [] r t h = h
has_named x (e ∷ es) r t (inl h) = inl h.0
has_named x (e ∷ es) r t (inr h) = inr (has_named x es r t h.1)

pub name_answers : {X : Type 0} (s s' : Solving) (es : List Assumed) (x : Identifier) (q : ℕ) (body t : Mono) (outcome : Result X UnifyFault) → IsSchemeOf x (record { quantified = q; body = body }) es → Answers (HasInstance q body t) s s' outcome →
    Answers (λ r. Has (assumptions_put r (assumptions es)) x (put r (monotype t))) s s' outcome
name_answers s s' es x q body t (Ok z) h a =
    solved_same s s' (λ r p. found_has x (record { quantified = q; body = body }) es r (put r (monotype t)) h p) (λ r p. has_found x (record { quantified = q; body = body }) es r (put r (monotype t)) h p) a
name_answers s s' es x q body t (Err e) h a =
    pass_on {P = λ r. Has (assumptions_put r (assumptions es)) x (put r (monotype t))} {Q = HasInstance q body t} s s e (λ r u p. (r, u, has_found x (record { quantified = q; body = body }) es r (put r (monotype t)) h p)) a

pub name_refused : (s : Solving) (es : List Assumed) (x : Identifier) (t : Mono) → (IsOneOf x (assumed_names es) → ⊥) → HasNone (λ r. Has (assumptions_put r (assumptions es)) x (put r (monotype t))) s
name_refused s es x t n r u p = n (has_named x es r (put r (monotype t)) p)
