-- The answer of a phase.
use Rattle.std.proofs.Common.{ℕ, Bool, true, false, ◌==◌, ◌∙◌, ◌≡◌, List, [], ◌∷◌, length, Some, None, Contains, ◌↔◌, arith, sym, ap}
use Rattle.std.proofs.lemmas.Bool.{eqb-false}
use Rattle.hm_types.specs.Interfaces.{Exports as Interface}
use Rattle.hm_syntax.specs.declared.ast.Module.{Module}
use Rattle.hm_names.specs.declared.faults.Fault.{Fault}
use Rattle.hm_scope.specs.PhaseAnswers.{AreExact, IsPhaseAnswer}
use Rattle.hm_names.specs.Faults.Phases.{Phase, AreOrdered}

pub no_answer : (m : Module) (fs : List Interface) (p : Phase) (all found : List Fault) → ((f : Fault) → Contains found f ↔ Contains all f) → length found ≡ 0 → AreExact m fs p all → IsPhaseAnswer m fs p None
no_answer m fs p all [] same e exact = λ f h. let c = (same f).1 ((exact f).1 h) in absurd (omega (arith, c.1))
no_answer m fs p all (x ∷ xs) same e exact = absurd (omega (arith, e))

pub an_answer : (m : Module) (fs : List Interface) (p : Phase) (all found : List Fault) → ((f : Fault) → Contains found f ↔ Contains all f) → AreOrdered found → ¬ (length found ≡ 0) → AreExact m fs p all → IsPhaseAnswer m fs p (Some found)
an_answer m fs p all found same sorted some exact = λ none_before. record {
  phase = p;
  some = λ e. some (ap length e);
  exact = λ f. (λ c. (exact f).0 ((same f).0 c), λ h. (same f).1 ((exact f).1 h));
  first = none_before;
  ordered = sorted;
}

pub is_zero : (r : Bool) (n k : ℕ) → n ≡ k → r ≡ (k == 0) → r ≡ true → n ≡ 0
is_zero r n k l e t = grind (arith, l, e, t)

pub is_not_zero : (r : Bool) (n k : ℕ) → n ≡ k → r ≡ (k == 0) → r ≡ false → ¬ (n ≡ 0)
is_not_zero r n k l e t = λ z. eqb-false k 0 (sym e ∙ t) (sym l ∙ z)
