-- Worked examples of the two types of a part.
use Rattle.std.specs.Prelude.{◌≡◌, Bool, false, true, ℕ, List, [], ◌∷◌, None, Some, codes}
use Rattle.hm_types.specs.Monotypes.{Mono, var}
use Rattle.hm_types.specs.Schemes.{TypeScheme}
use Rattle.hm_types.specs.Types.{Var as leaf, App as app, done as none, more}
use Rattle.hm_types.specs.declared.Head.TheVariants.{Arrow, Tuple}
use Rattle.hm_run_sources.specs.SourceModules.{HasModules}
use Rattle.hm_names.specs.Worked.{signs_pattern}
use Rattle.hm_verdicts.specs.Worked.{module_A, module_B}
use Rattle.hm_verdicts.specs.WorkedVerdicts.{character}
use Rattle.hm_messages_types.specs.InfiniteTypes.{NeedInfinite}
use Rattle.hm_messages_trials.specs.PartTypes.{AreTextsOf, ExportsIn, from_three}
use Rattle.hm_messages_changes.specs.Probes.{Renaming, Surroundings, before, hollowed, with_probe, with_alone}
use Rattle.hm_messages_changes.specs.Holes.{without}
use Rattle.hm_messages_trials.specs.Signatures.{IsGoodIn}
use Rattle.hm_messages_changes.specs.declared.data.Other.{Other}
use Rattle.hm_messages_trials.specs.TypedSources.{IsSigned}
use Rattle.hm_messages_trials.specs.Worked.{part, span}

-- f is local under its own name, or its name at the first byte is written anew
abbrev pub own_name : Renaming
own_name = record { name = codes "f"; before = []; after = [] }

abbrev pub other_name : Renaming
other_name = record { name = codes "part'local"; before = span 0 1 ∷ []; after = [] }

-- a definition from the first byte up to the second, in a module without an export list
abbrev pub local_at : Renaming → ℕ → ℕ → Surroundings
local_at r from to = record { whole = span from to; local = r; exported = None; names = []; before = []; after = [] }

abbrev pub alone_at : ℕ → ℕ → Surroundings
alone_at from to = local_at own_name from to

-- g is another definition, from the first byte up to byte 5
pub record OthersRow : Type 0 where
  pub hollow : (g : Other) → g.name.now ≡ codes "g" → g.from ≡ 0 → g.to ≡ 5 → hollowed (codes "g = 1 ; f") 0 9 (g ∷ []) ≡ codes "g = (let { h = h } in h) ; f"
  pub none : ¬ (hollowed (codes "g = 1 ; f") 0 9 [] ≡ codes "g = (let { h = h } in h) ; f")

-- without its signature f has the type that it has alone
pub record SignaturesRow : Type 0 where
  pub gone : without (codes "f :: a ; f = 1") 0 6 ≡ codes " ; f = 1"
  pub stays : ¬ (without (codes "f :: a ; f = 1") 0 0 ≡ codes " ; f = 1")
  pub own : with_alone (codes "f = 1") (codes "f") (alone_at 0 5) ≡ codes "f = (let { h = h } in h) ; part'declared = f ; part'types = let { f = 1 } in f"

-- x is the part of f x = x from byte 6 to byte 7, and of f x = f x from byte 8 to byte 9, where f means the definition outside. Where a module has an export list, the function is in it, and so are names
pub record ProbesRow : Type 0 where
  pub argument : with_probe (codes "f x = x") (codes "f") (alone_at 0 7) (part 6 7)
      ≡ codes "f = (let { h = h } in h) ; part'declared = f ; part'types (part'own, part'expected, part'actual) = case let { f x = (case part'actual : (x) : [] of { _ -> part'expected }) } in f : part'own : part'declared : [] of { _ -> () }"
  pub signed : with_probe (codes "f x = f x") (codes "f") (local_at other_name 0 9) (part 8 9)
      ≡ codes "f = (let { h = h } in h) ; part'declared = f ; part'types (part'own, part'expected, part'actual) = case let { part'local x = f (case part'actual : (x) : [] of { _ -> part'expected }) } in part'local : part'own : part'declared : [] of { _ -> () }"
  pub listed : before (codes "module A (f) where {") (Some 10) [] 20 [] ≡ codes "module A (part'types , f) where {"
  pub named : before (codes "module A (f) where {") (Some 10) (span 7 8 ∷ []) 20 [] ≡ codes "module A (part'types , A , f) where {"
  pub unlisted : ¬ (before (codes "module A (f) where {") None [] 20 [] ≡ codes "module A (part'types , f) where {")

abbrev pub a : Mono
a = leaf (var 0)

abbrev pub b : Mono
b = leaf (var 1)

abbrev pub function : Mono → Mono → Mono
function t u = app Arrow (more t (more u none))

-- the types of f in twice f = f f: a function from a to b, where a is expected
abbrev pub applied_to_itself : TypeScheme
applied_to_itself = record { vars = 2; body = from_three (function a b) a (function a b) }

abbrev pub equal_types : TypeScheme
equal_types = record { vars = 1; body = from_three a a a }

abbrev pub two_variables : TypeScheme
two_variables = record { vars = 2; body = from_three (function a b) a b }

-- the types of (x, y) in swap (x, y) = (x, y), of which a signature says that it takes (a, b) and gives (b, a)
abbrev pub tuple : Mono → Mono → Mono
tuple t u = app (Tuple 2) (more t (more u none))

abbrev pub swapped : TypeScheme
swapped = record { vars = 2; body = from_three (function (tuple a b) (tuple b a)) (tuple b a) (tuple a b) }

-- The expected type is the first of the two, with the letters of the definition's type, and two equal types are none. Without a signature (a, b) and (b, a) can be
-- the same type, so there are none. A type that would be infinite is reported as such, and two variables aren't
pub record TextsRow : Type 0 where
  pub itself : AreTextsOf applied_to_itself false (codes "a -> b") (codes "a") (codes "a -> b") true
  pub lettered : AreTextsOf swapped true (codes "(a, b) -> (b, a)") (codes "(b, a)") (codes "(a, b)") false
  pub agreeing : (own t u : List ℕ) (infinite : Bool) → ¬ (AreTextsOf swapped false own t u infinite)
  pub exchanged : (signed infinite : Bool) → ¬ (AreTextsOf applied_to_itself signed (codes "a -> b") (codes "a -> b") (codes "a") infinite)
  pub equal : (signed : Bool) (own t u : List ℕ) (infinite : Bool) → ¬ (AreTextsOf equal_types signed own t u infinite)
  pub finite : (signed : Bool) (own t u : List ℕ) → ¬ (AreTextsOf two_variables signed own t u true)

-- a and a -> b are equal only as an infinite type, and so are b -> a and b -> a -> b. Two variables aren't, nor is a with a type without it
pub record InfiniteRow : Type 0 where
  pub itself : NeedInfinite a (function a b)
  pub inside : NeedInfinite (function b a) (function b (function a b))
  pub variables : ¬ (NeedInfinite a b)
  pub apart : ¬ (NeedInfinite a (function b b))

-- the module A has only x = 'c', and exports x and no y
pub record ExportsRow : Type 0 where
  pub here : (source : List ℕ) → HasModules source (module_A ∷ []) → ExportsIn source (codes "A") [] (codes "x") character
  pub other : (source : List ℕ) (s : TypeScheme) → HasModules source (module_A ∷ []) → ¬ (ExportsIn source (codes "A") [] (codes "y") s)

-- a module with a signature of x has one of x, and the module A, which has only x = 'c', has none
pub record SignedRow : Type 0 where
  pub signed : IsSigned signs_pattern (codes "x")
  pub unsigned : ¬ (IsSigned module_A (codes "x"))

-- the module A is good, and the module B isn't, because it exports a module that it doesn't import
pub record GoodRow : Type 0 where
  pub good : (source : List ℕ) → HasModules source (module_A ∷ []) → IsGoodIn source (codes "A") []
  pub faulty : (source : List ℕ) → HasModules source (module_B ∷ []) → ¬ (IsGoodIn source (codes "B") [])
