-- Decides whether a type variable is free in assumptions. Only the types of these functions are used.
use Rattle.std.specs.Prelude.{◌≡◌, ℕ, ◌⊎◌}
use Rattle.hm_types.specs.Types.{Args, Var, App, done, more, In, InArgs}
use Rattle.hm_typing.specs.Schemes.{Scheme, SchemeVariable, Free, Quantified}
use Rattle.hm_typing.specs.Assumptions.{Assumptions, empty, bind, FreeIn}
use native.Mathlib.Decide.{ℕ_discrete}
use mathlib.Core.Path.{ap}
use mathlib.Core.Logic.{inl, inr}

abbrev pub either : {P Q : Type 0} → Dec P → Dec Q → Dec (P ⊎ Q)
either (yes p) d = yes (inl p)
either (no n) (yes q) = yes (inr q)
either (no n) (no m) = no (λ s. elim s [ inl p ↦ n p | inr q ↦ m q ])

abbrev pub number_or : ℕ → SchemeVariable → ℕ
number_or d (Free a) = a
number_or d (Quantified i) = d

abbrev pub IsFree : SchemeVariable → Type 0
IsFree (Free a) = Unit {0}
IsFree (Quantified i) = ⊥

pub is_that_variable : (a : ℕ) (v : SchemeVariable) → Dec (Free a ≡ v)
is_that_variable a (Free b) = elim (ℕ_discrete a b) [ yes e ↦ yes (ap Free e) | no n ↦ no (λ e. n (ap (number_or 0) e)) ]
is_that_variable a (Quantified i) = no (λ e. mathlib.Core.Path.subst IsFree e tt)

mutual
  pub is_in : (a : ℕ) (σ : Scheme) → Dec (In (Free a) σ)
  is_in a (Var v) = is_that_variable a v
  is_in a (App h ts) = is_in_args a ts

  pub is_in_args : (a : ℕ) (ts : Args SchemeVariable) → Dec (InArgs (Free a) ts)
  is_in_args a done = no (λ e. e)
  is_in_args a (more t ts) = either (is_in a t) (is_in_args a ts)

pub is_free_in : (a : ℕ) (A : Assumptions) → Dec (FreeIn a A)
is_free_in a empty = no (λ e. e)
is_free_in a (bind y σ A) = either (is_in a σ) (is_free_in a A)
