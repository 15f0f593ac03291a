-- The types that a function of a closed scheme takes are those of a solver that has given the variables of the scheme.
use Rattle.std.proofs.Common.{◌≡◌, ℕ, ◌<◌, Bool, true, false, ◌||◌, ◌==◌, refl, sym, subst, arith}
use Rattle.std.proofs.lemmas.Bool.Decides.{nat_tests}
use Rattle.hm_types.specs.Monotypes.{Mono, Monos, var, rigid}
use Rattle.hm_types.specs.Schemes.{TypeScheme, IsScheme, HasArities, AllHaveArities, HasNoRigid, AllHaveNoRigid}
use Rattle.hm_types.specs.Substitution.{occurs, occurs_in_any}
use Rattle.hm_types.specs.Types.{Var as leaf, App as app, done as none, more}
use Rattle.hm_unify.specs.WellFormed.{IsWellFormed, AreWellFormed}
use Rattle.hm_messages_trials.specs.PartTypes.{from_three}

mutual
  closed_given : (k : ℕ) (t : Mono) → HasNoRigid t → HasArities t → ((n : ℕ) → occurs n t ≡ true → n < k) → IsWellFormed k t
  closed_given k (leaf (var n)) h a c = c n (same n)
    where
      same : (n : ℕ) → (n == n) ≡ true
      same n = grind (arith, nat_tests)
  closed_given k (leaf (rigid n)) h a c = absurd h
  closed_given k (app f ts) h a c = (a.0, all_closed_given k ts h a.1 c)

  all_closed_given : (k : ℕ) (ts : Monos) → AllHaveNoRigid ts → AllHaveArities ts → ((n : ℕ) → occurs_in_any n ts ≡ true → n < k) → AreWellFormed k ts
  all_closed_given k none h a c = tt
  all_closed_given k (more t ts) h a c = (closed_given k t h.0 a.0 (λ n o. c n (left n (occurs n t) o)), all_closed_given k ts h.1 a.1 (λ n o. c n (right n (occurs n t) o)))
    where
      left : (n : ℕ) (b : Bool) → b ≡ true → (b || occurs_in_any n ts) ≡ true
      left n true o = refl
      left n false o = absurd (Rattle.std.proofs.Common.true≢false (sym o))

      right : (n : ℕ) (b : Bool) → occurs_in_any n ts ≡ true → (b || occurs_in_any n ts) ≡ true
      right n true o = refl
      right n false o = o

three_given : (s : TypeScheme) (own expected actual : Mono) → IsScheme s → s.body ≡ from_three own expected actual → IsWellFormed s.vars (from_three own expected actual)
three_given s own expected actual v three = subst (IsWellFormed s.vars) three (closed_given s.vars s.body v.not_rigid v.arities v.closed)

pub expected_given : (s : TypeScheme) (n : ℕ) (own expected actual : Mono) → IsScheme s → s.body ≡ from_three own expected actual → n ≡ s.vars → IsWellFormed n expected
expected_given s n own expected actual v three e = subst (λ (k : ℕ). IsWellFormed k expected) (sym e) (three_given s own expected actual v three).1.0.1.1.0

pub actual_given : (s : TypeScheme) (n : ℕ) (own expected actual : Mono) → IsScheme s → s.body ≡ from_three own expected actual → n ≡ s.vars → IsWellFormed n actual
actual_given s n own expected actual v three e = subst (λ (k : ℕ). IsWellFormed k actual) (sym e) (three_given s own expected actual v three).1.0.1.1.1.0
