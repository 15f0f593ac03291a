-- The publications of a build: a list that only grows. Readers see prefixes of it.
use Rattle.std.specs.Prelude.{◌≡◌, ◌==◌, ◌+◌, ◌≤◌, ℕ, cond, List, [], ◌∷◌, map, take, fold, Option, Some, None, Contains, slice_get, slice_index_or}
use Rattle.hm_types.specs.Interfaces.{Exports as Interface}
use Rattle.hm_types.specs.StandardPrelude.{prelude_interface}
use Rattle.hm_syntax.specs.declared.ast.Module.{Module}
use Rattle.hm_names.specs.Imports.{AreImportsOf}
use Rattle.hm_verdicts.specs.ModuleVerdicts.{Verdict, Good, Faulty, IsVerdict}
use Rattle.hm_store_published.specs.declared.publication.Publication.{Publication}

-- the interface of a good module
abbrev pub interface_of : Verdict → Option Interface
interface_of (Good f) = Some f
interface_of (Faulty found) = None

abbrev pub published_interface : Publication → Option Interface
published_interface p = interface_of p.outcome.verdict

-- the interface with which the module was published
abbrev pub interface_in : List Publication → ℕ → Option Interface
interface_in [] m = None
interface_in (p ∷ ps) m = cond (p.number == m) (published_interface p) (interface_in ps m)

-- the module was published
abbrev pub IsPublishedIn : List Publication → ℕ → Type 0
IsPublishedIn ps m = (f : Interface) × (interface_in ps m ≡ Some f)

-- the number of journal entries up to that of the last publication
abbrev pub entries_of : List Publication → ℕ
entries_of ps = fold (λ n p. p.place + 1) 0 ps

-- the next publication of a list: no earlier one is of the same module, and its place in the journal is later. The outcome is that of the module
-- with its number, for the interfaces published before of the modules that it imports by the plan. Its verdict is right for these interfaces
-- (Haskell 98 Report, section 5)
pub record MayFollow (modules : List Module) (plan : List (List ℕ)) (before : List Publication) (p : Publication) : Type 0 where
  pub distinct : ¬ (Contains (map (λ q. q.number) before) p.number)
  pub later : entries_of before ≤ p.place
  pub subject : slice_get modules p.number ≡ Some p.outcome.«module»
  pub imports : map (λ f. Some f) p.outcome.imports ≡ map (interface_in before) (slice_index_or plan p.number [])
  pub good : (f : Interface) × (p.outcome.verdict ≡ Good f)
  pub asked : AreImportsOf p.outcome.«module» p.outcome.imports
  pub right : IsVerdict p.outcome.«module» (prelude_interface ∷ p.outcome.imports) p.outcome.verdict

-- each publication may follow those before it, in a build of these modules with this plan
pub record IsLawful (modules : List Module) (plan : List (List ℕ)) (ps : List Publication) : Type 0 where
  pub each : (k : ℕ) (p : Publication) → slice_get ps k ≡ Some p → MayFollow modules plan (take k ps) p
