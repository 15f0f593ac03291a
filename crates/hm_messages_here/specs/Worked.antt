-- Worked examples of the types of names at their places.
use Rattle.std.specs.Prelude.{◌≡◌, ℕ, List, [], ◌∷◌, codes}
use Rattle.hm_run_sources.specs.SourceModules.{HasModules}
use Rattle.hm_types.specs.Monotypes.{Mono, var}
use Rattle.hm_types.specs.Schemes.{TypeScheme}
use Rattle.hm_types.specs.Types.{Var as leaf, App as app, done as none, more}
use Rattle.hm_types.specs.declared.Head.TheVariants.{Arrow}
use Rattle.hm_verdicts.specs.Worked.{module_A}
use Rattle.hm_messages_changes.specs.declared.data.Other.{Other}
use Rattle.hm_messages_here.specs.Patterns.{IsTied, all_shared}
use Rattle.hm_messages_here.specs.TypesHere.{AreTextsOf, HasTypes, IsWithout}
use Rattle.hm_messages_trials.specs.PartTypes.{from_pair}

abbrev pub a : Mono
a = leaf (var 0)

abbrev pub b : Mono
b = leaf (var 1)

abbrev pub function : Mono → Mono → Mono
function t u = app Arrow (more t (more u none))

-- the types of y in f x y = x: that of f takes a and then b
abbrev pub second_parameter : TypeScheme
second_parameter = record { vars = 2; body = from_pair (function a (function b a)) b }

-- y has type b, by the letters of f's type, and not a
pub record TextsRow : Type 0 where
  pub lettered : AreTextsOf second_parameter (codes "a -> b -> a") (codes "b")
  pub not_first : ¬ (AreTextsOf second_parameter (codes "a -> b -> a") (codes "a"))

-- the module A has only x = 'c', so it exports no variable for a type
pub record TypesRow : Type 0 where
  pub none : (source : List ℕ) (s : TypeScheme) → HasModules source (module_A ∷ []) → ¬ (HasTypes source (codes "A") [] s)

-- A source is one without no definitions. The bytes after f stay where they are, and f is the hole after them. No source without definitions is empty
pub record WithoutRow : Type 0 where
  pub itself : IsWithout (codes "f = 1") (codes "f = 1")
  pub hole : (f : Other) → f.name.now ≡ codes "f" → f.from ≡ 0 → f.to ≡ 5 → IsWithout (codes "f = 1 ; g = 2") (codes "      ; g = 2 ; f = (let { h = h } in h)")
  pub not_empty : ¬ (IsWithout (codes "f = 1") [])

-- The copy of (p, q) = .. shares the types of p and q. The copy of f is in one list with M.f. The module A has only x = 'c', which is no pattern binding, so () ties no copy
pub record TiesRow : Type 0 where
  pub both : all_shared (codes "M") (codes "p" ∷ codes "q" ∷ []) ≡ codes "case () : (case M.p : p : [] of { _ -> () }) : (case M.q : q : [] of { _ -> () }) : [] of { _ -> () }"
  pub named : (source local : List ℕ) → IsTied source (codes "M") 0 (codes "f") (codes "M.f") local
  pub no_pattern : (source local : List ℕ) (from : ℕ) → HasModules source (module_A ∷ []) → ¬ (IsTied source (codes "A") from (codes "()") (codes "()") local)
