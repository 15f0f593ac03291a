-- Types that are equal only if a type contains itself, and so is infinite: the occurs check.
use Rattle.std.specs.Prelude.{◌≡◌, ◌⊎◌, true}
use Rattle.hm_types.specs.Monotypes.{Mono, Monos, var, rigid}
use Rattle.hm_types.specs.Substitution.{Substitution, substitute, occurs_in_any}
use Rattle.hm_types.specs.Types.{Var as leaf, App as app, done as none, more}

-- one type is a variable that is inside the other, or this holds of two arguments at one place
abbrev mutual
  pub NeedInfinite : Mono → Mono → Type 0
  NeedInfinite (leaf (var x)) (app h ts) = occurs_in_any x ts ≡ true
  NeedInfinite (leaf (var x)) (leaf w) = ⊥
  NeedInfinite (leaf (rigid x)) u = ⊥
  NeedInfinite (app h ts) (leaf (var x)) = occurs_in_any x ts ≡ true
  NeedInfinite (app h ts) (leaf (rigid x)) = ⊥
  NeedInfinite (app h ts) (app k us) = (h ≡ k) × SomeNeedInfinite ts us

  pub SomeNeedInfinite : Monos → Monos → Type 0
  SomeNeedInfinite none us = ⊥
  SomeNeedInfinite (more t ts) none = ⊥
  SomeNeedInfinite (more t ts) (more u us) = NeedInfinite t u ⊎ SomeNeedInfinite ts us

-- no substitution makes such types equal
abbrev pub NoCommonInstance : Type 0
NoCommonInstance = (t u : Mono) (f : Substitution) → NeedInfinite t u → ¬ (substitute f t ≡ substitute f u)
