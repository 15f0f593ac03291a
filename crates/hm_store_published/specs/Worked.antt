-- Worked examples of lists of publications.
use Rattle.std.specs.Prelude.{◌≡◌, ◌≢◌, ◌≤◌, ℕ, List, [], ◌∷◌, Some}
use Rattle.hm_types.specs.Interfaces.{Exports as Interface}
use Rattle.hm_types.specs.StandardPrelude.{prelude_interface}
use Rattle.hm_syntax.specs.declared.ast.Module.{Module}
use Rattle.hm_names.specs.Imports.{AreImportsOf}
use Rattle.hm_verdicts.specs.ModuleVerdicts.{Good, IsVerdict}
use Rattle.hm_store_published.specs.declared.publication.Publication.{Publication}
use Rattle.hm_store_published.specs.Publications.{IsLawful, entries_of, interface_in}

-- the publication of module m under number n, at this place of the journal, checked for these interfaces, with the interface f
abbrev pub entry : ℕ → ℕ → Module → List Interface → Interface → Publication
entry n place m fs f = record { number = n; place = place; outcome = record { «module» = m; imports = fs; verdict = Good f } }

-- the module is good for these interfaces of its imports, with the interface f
pub record IsGoodFor (m : Module) (fs : List Interface) (f : Interface) : Type 0 where
  pub asked : AreImportsOf m fs
  pub verdict : IsVerdict m (prelude_interface ∷ fs) (Good f)

-- module 0 imports module 1
abbrev pub plan : List (List ℕ)
plan = (1 ∷ []) ∷ [] ∷ []

-- for any two modules a and b such that b is good with the interface g, and a is good for g with the interface f, in a build where number 0 is a
-- and imports number 1, which is b:
pub record ListsRow : Type 0 where
  -- b and then a is a lawful list, and so are its prefixes. A look-up finds the interface of each
  pub lawful : (a b : Module) (f g : Interface) → IsGoodFor b [] g → IsGoodFor a (g ∷ []) f → IsLawful (a ∷ b ∷ []) plan (entry 1 1 b [] g ∷ entry 0 3 a (g ∷ []) f ∷ [])
  pub begun : (a b : Module) (g : Interface) → IsGoodFor b [] g → IsLawful (a ∷ b ∷ []) plan (entry 1 1 b [] g ∷ [])
  pub looks : (a b : Module) (f g : Interface) → interface_in (entry 1 1 b [] g ∷ entry 0 3 a (g ∷ []) f ∷ []) 0 ≡ Some f
  pub entries : (a b : Module) (f g : Interface) → entries_of (entry 1 1 b [] g ∷ entry 0 3 a (g ∷ []) f ∷ []) ≡ 4
  -- a isn't published before its import, for any interfaces
  pub early : (a b : Module) (f g : Interface) → ¬ (IsLawful (a ∷ b ∷ []) plan (entry 0 1 a (g ∷ []) f ∷ []))
  -- a isn't published after its import with another interface, or with none
  pub other : (a b : Module) (f g h : Interface) → g ≢ h → ¬ (IsLawful (a ∷ b ∷ []) plan (entry 1 1 b [] g ∷ entry 0 3 a (h ∷ []) f ∷ []))
  pub without : (a b : Module) (f g : Interface) → ¬ (IsLawful (a ∷ b ∷ []) plan (entry 1 1 b [] g ∷ entry 0 3 a [] f ∷ []))
  -- b isn't published under the number of a, under a number that no module has, or twice
  pub renumbered : (a b : Module) (g : Interface) → a ≢ b → ¬ (IsLawful (a ∷ b ∷ []) plan (entry 0 1 b [] g ∷ []))
  pub unknown : (a b : Module) (n : ℕ) (g : Interface) → 2 ≤ n → ¬ (IsLawful (a ∷ b ∷ []) plan (entry n 1 b [] g ∷ []))
  pub twice : (a b : Module) (g : Interface) → ¬ (IsLawful (a ∷ b ∷ []) plan (entry 1 1 b [] g ∷ entry 1 3 b [] g ∷ []))
  -- a later publication isn't at an earlier place of the journal
  pub backwards : (a b : Module) (f g : Interface) → ¬ (IsLawful (a ∷ b ∷ []) plan (entry 1 3 b [] g ∷ entry 0 1 a (g ∷ []) f ∷ []))

-- no module is published under two numbers of different modules
pub record NumbersRow : Type 0 where
  pub one : (a b : Module) (place later : ℕ) (g : Interface) → a ≢ b → ¬ (IsLawful (a ∷ b ∷ []) ([] ∷ [] ∷ []) (entry 0 place a [] g ∷ entry 1 later a [] g ∷ []))
