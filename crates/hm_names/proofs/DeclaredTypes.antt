-- The variables of a declared type have numbers below how often variables occur in it.
use Rattle.std.proofs.Common.{◌≡◌, ℕ, ◌<◌, Bool, true, false, ◌||◌, List, length, inl, inr, refl, ap, sym, ◌∙◌, subst}
use Rattle.std.proofs.lemmas.Bool.{eq-eqb}
use Rattle.hm_types.specs.Types.{Args, Var, App, done, more, In, InArgs, put_all}
use Rattle.hm_types.specs.Monotypes.{var}
use Rattle.hm_types.specs.Substitution.{occurs, occurs_in_any}
use Rattle.hm_typing.specs.Schemes.{Monotype}
use Rattle.hm_typing.specs.Problems.{IsBelow}
use Rattle.hm_syntax.specs.Trees.{TypeTree}
use Rattle.hm_names.specs.Types.{declared_type, program_of}
use Rattle.hm_names.specs.Variables.{texts, type_variables}
use Rattle.hm_names.proofs.DeclaredPairs.{map_contains}
use Rattle.hm_names.proofs.TypesOfTrees.{closed}

left : (b c : Bool) → b ≡ true → (b || c) ≡ true
left true c h = refl
left false c h = absurd (cc)

right : (b c : Bool) → c ≡ true → (b || c) ≡ true
right true c h = refl
right false c h = h

mutual
  occurs_there : (a : ℕ) (t : Monotype) → In a t → occurs a (program_of t) ≡ true
  occurs_there a (Var v) i = eq-eqb v a (sym i)
  occurs_there a (App h ts) i = occurs_in_args a ts i

  occurs_in_args : (a : ℕ) (ts : Args ℕ) → InArgs a ts → occurs_in_any a (put_all (λ v. Var (var v)) ts) ≡ true
  occurs_in_args a done i = absurd i
  occurs_in_args a (more t ts) (inl i) = left (occurs a (program_of t)) (occurs_in_any a (put_all (λ v. Var (var v)) ts)) (occurs_there a t i)
  occurs_in_args a (more t ts) (inr i) = right (occurs a (program_of t)) (occurs_in_any a (put_all (λ v. Var (var v)) ts)) (occurs_in_args a ts i)

pub declared_below : (t : TypeTree) (count : ℕ) (xs : List (List ℕ)) → xs ≡ texts (type_variables t) → count ≡ length xs → IsBelow count (declared_type t)
declared_below t count xs e n a i =
    let below : a < length (texts (type_variables t)) = closed (texts (type_variables t)) t (map_contains (λ k. k.text) (type_variables t)) a (occurs_there a (declared_type t) i) in
    subst (λ k. a < k) (sym (n ∙ ap length e)) below
