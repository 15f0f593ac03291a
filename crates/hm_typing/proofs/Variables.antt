-- The variables of a type.
use Rattle.std.proofs.Common.{ℕ, suc, ◌<◌, max, sym, subst, inl, inr, arith}
use native.Mathlib.Decide.{ℕ_discrete}
use Rattle.hm_types.specs.Types.{Args, Var, App, done, more, In, InArgs}
use Rattle.hm_typing.specs.Schemes.{Monotype}
use Rattle.hm_typing.specs.Decisions.{either}
use Rattle.hm_typing.specs.Problems.{IsBelow}

mutual
  pub occurs : (a : ℕ) (t : Monotype) → Dec (In a t)
  occurs a (Var b) = ℕ_discrete a b
  occurs a (App h ts) = occurs_in a ts

  pub occurs_in : (a : ℕ) (ts : Args ℕ) → Dec (InArgs a ts)
  occurs_in a done = no (λ e. e)
  occurs_in a (more t ts) = either (occurs a t) (occurs_in a ts)

-- a bound of them
mutual
  pub vars_bound : (t : Monotype) → (k : ℕ) × IsBelow k t
  vars_bound (Var b) = (suc b, λ a e. subst (λ c. c < suc b) (sym e) (omega arith))
  vars_bound (App h ts) = args_vars_bound ts

  pub args_vars_bound : (ts : Args ℕ) → (k : ℕ) × ((a : ℕ) → InArgs a ts → a < k)
  args_vars_bound done = (0, λ a e. absurd e)
  args_vars_bound (more t ts) =
      let p = vars_bound t in
      let q = args_vars_bound ts in
      (max p.0 q.0, λ a s. elim s [ inl i ↦ (let h = p.1 a i in omega arith) | inr i ↦ (let h = q.1 a i in omega arith) ])
