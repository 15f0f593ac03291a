-- The pattern of an alternative is matched against the type of what is looked at.
use Rattle.std.proofs.Common.{◌≡◌, ℕ, List, [], ◌++◌, Result, Ok, Err, IsErrAnd, refl, sym, ap, ◌∙◌, subst}
use Rattle.hm_types.specs.Types.{Var, App, done, more}
use Rattle.hm_types.specs.Monotypes.{Mono, var}
use Rattle.hm_syntax.specs.Trees as tree
use Rattle.hm_typing.specs.Names.{Identifier, IsOneOf}
use Rattle.hm_typing.specs.Schemes.{Monotype, arrow, monomorphic}
use Rattle.hm_typing.specs.Assumptions.{bind_all}
use Rattle.hm_typing.specs.Syntax.{Patterns, pattern, no_pattern, pattern_names, patterns_names, bool}
use Rattle.hm_typing.specs.Patterns.{Matches}
use Rattle.hm_typing.proofs.Solve.{put-below}
use Rattle.hm_unify.specs.Solving.{Solving}
use Rattle.hm_unify.specs.WellFormed.{IsWellFormed}
use Rattle.hm_unify.proofs.WellFormed.{well_formed_more}
use Rattle.hm_unify.specs.declared.faults.UnifyFault.{UnifyFault}
use Rattle.hm_unify.specs.declared.faults.UnifyFault.TheVariants.{Clash, Memory}
use Rattle.hm_infer_context.specs.Problems.{number, monotype, bound}
use Rattle.hm_infer_context.specs.Environments.{Assumed, assumptions, AreAssumed, monomorphic_entries}
use Rattle.hm_infer_context.specs.Patterns.{Variable, names_of, HaveTypes, IsMatched, RefusesMatch}
use Rattle.hm_infer_context.specs.Functions.{IsOpened, RefusesOpening, Entered}
use Rattle.hm_names.specs.Syntax.{Known, pattern_of}
use Rattle.hm_infer_context.proofs.Leaves.{monotype-below}
use Rattle.hm_infer_context.proofs.FoundNames.{assumed_later}
use Rattle.hm_infer_context.proofs.OpenedFunctions.{bound_variables, variables_assumed}

-- the type of an alternative: from that of the variable n to t
abbrev pub choice_type : ℕ → Mono → Monotype
choice_type n t = arrow (monotype (Var (var n))) (monotype t)

-- the types that a function type is made of
parameter : Monotype → Monotype
parameter (App h (more t ts)) = t
parameter (App h done) = bool
parameter (Var x) = bool

outcome_type : Monotype → Monotype
outcome_type (App h (more t (more u us))) = u
outcome_type (App h (more t done)) = bool
outcome_type (App h done) = bool
outcome_type (Var x) = bool

abbrev pub AsksChoice : Known → tree.Pattern → ℕ → (Identifier → Monotype) → (ℕ → Monotype) → Type 0
AsksChoice known p first ρ r = Matches ρ (pattern_of known p) (r (number (var first)))

abbrev pub ChoiceMatch : Known → tree.Pattern → ℕ → Solving → Solving → List Variable → Type 0
ChoiceMatch known p first s s1 vs = (τ : Identifier → Monotype) → HaveTypes τ [] → (τ' : Identifier → Monotype) × IsMatched (AsksChoice known p first) (pattern_names (pattern_of known p)) s [] τ s1 vs τ'

pub entered_answers : (known : Known) (p : tree.Pattern) (first : ℕ) (t : Mono) (s s1 : Solving) (vs : List Variable) (es es' : List Assumed) → IsWellFormed s.given t → AreAssumed s.given es → ChoiceMatch known p first s s1 vs → es' ≡ monomorphic_entries vs ++ es →
    IsOpened (pattern (pattern_of known p) no_pattern) (choice_type first t) t s es s1 es'
unfolding parameter outcome_type
entered_answers known p first t s s1 vs es es' wt a m e = record {
  types = M.0;
  added = monomorphic_entries vs;
  entries = e;
  assumed = ap assumptions e ∙ (bound_variables vs M.0 es M.1.typed ∙ ap (λ xs. bind_all xs (λ x. monomorphic (M.0 x)) (assumptions es)) named);
  given = subst (AreAssumed s1.given) (sym e) (variables_assumed s1.given vs es M.1.given (assumed_later s.given s1.given es M.1.grows a));
  result_given = well_formed_more s.given s1.given t M.1.grows wt;
  grows = M.1.grows;
  below = M.1.below;
  sound = λ r u. (let n = M.1.sound r u in (n.0, ((λ i. r (number (var first))), (refl, (n.1, tt)))));
  complete = λ r ρ us w u d k.
      let N = M.1.complete r ρ u (λ x o. absurd o) (subst (Matches ρ (pattern_of known p)) (sym (ap parameter d)) k.0) in (
        N.0,
        N.1,
        N.2,
        (λ x o. N.3 x (subst (IsOneOf x) (sym named) o)),
        sym (put-below (bound s) r N.0 (monotype t) N.1 (monotype-below s.given t wt)) ∙ ap outcome_type d,
      );
}
  where
    M : (τ' : Identifier → Monotype) × IsMatched (AsksChoice known p first) (pattern_names (pattern_of known p)) s [] (λ x. bool) s1 vs τ'
    M = m (λ x. bool) tt

    named : names_of vs ≡ patterns_names (pattern (pattern_of known p) no_pattern)
    named = M.1.names

pub entered_refused : (known : Known) (p : tree.Pattern) (first : ℕ) (t : Mono) (s : Solving) (e : UnifyFault) → ((τ : Identifier → Monotype) → HaveTypes τ [] → RefusesMatch (AsksChoice known p first) s [] τ e) → RefusesOpening (pattern (pattern_of known p) no_pattern) (choice_type first t) s e
unfolding parameter
entered_refused known p first t s Clash m = λ r ρ us w u d k. m (λ x. bool) tt r ρ u (λ x o. absurd o) (subst (Matches ρ (pattern_of known p)) (sym (ap parameter d)) k.0)
entered_refused known p first t s Memory m = tt

pub entering_passed : {X : Type 0} (ps : Patterns) (v : Monotype) (t : Mono) (s s' : Solving) (es es' : List Assumed) (outcome : Result X UnifyFault) (e : UnifyFault) → IsErrAnd outcome (λ y. y ≡ e) → RefusesOpening ps v s e → Entered ps v t s es s' es' outcome
entering_passed ps v t s s' es es' (Ok n) e i r = absurd i
entering_passed ps v t s s' es es' (Err k) e i r = subst (RefusesOpening ps v s) (sym i) r
