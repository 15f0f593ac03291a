-- Which text stands for a source that is edited.
use Rattle.std.specs.Prelude.{◌≡◌, ◌⊎◌, ℕ, Bool, true, false, List, [], ◌∷◌}
use Rattle.hm_syntax.specs.declared.ast.Module.{Module}
use Rattle.hm_run_sources.specs.Refusals.{IsLasting, Refusal}
use Rattle.hm_run_sources.specs.Runs.{IsSourceFault}
use Rattle.hm_run_sources.specs.SourceModules.{HasModules}

-- the text can be read: it spells modules
abbrev pub IsReadable : List ℕ → Type 0
IsReadable text = (modules : List Module) × HasModules text modules

-- the text can't be read: it has a lexical or a syntax fault
abbrev pub IsUnreadable : List ℕ → Type 0
IsUnreadable text = (r : Refusal) × (IsLasting r × IsSourceFault 1 text r)

abbrev pub IsReadAs : List ℕ → Bool → Type 0
IsReadAs text true = IsReadable text
IsReadAs text false = IsUnreadable text

-- of the texts that a source had, the latest first, the last one that can be read stands for it, and before the first one the empty text
abbrev pub StandsFor : List (List ℕ) → List ℕ → Type 0
StandsFor [] text = text ≡ []
StandsFor (now ∷ earlier) text = (IsReadable now × (text ≡ now)) ⊎ (IsUnreadable now × StandsFor earlier text)
