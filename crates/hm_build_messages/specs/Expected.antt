-- The notes of the types that are expected of names which aren't in scope.
use Rattle.std.specs.Prelude.{◌≡◌, ◌⊎◌, ℕ, List, [], take}
use Rattle.hm_types.specs.Interfaces.{Exports as Interface}
use Rattle.hm_names.specs.declared.faults.Fault.{Fault}
use Rattle.hm_verdicts.specs.Sets.{ModuleSet, imports_of, module_at}
use Rattle.hm_verdicts.specs.Verdicts.{ArePublished, Status}
use Rattle.hm_messages.specs.Messages.{AreEach, IsMessage}
use Rattle.hm_messages.specs.Subjects.{unbound_type}
use Rattle.hm_messages.specs.declared.heading.MessageFormat.{MessageFormat}
use Rattle.hm_messages_expected.specs.Expected.{IsExpected}

-- the note of a name that isn't in scope, at its place, states the type that is expected of it
pub record IsExpectedNote (format : MessageFormat) (file source name : List ℕ) (fs : List Interface) (faults : List Fault) (f : Fault) (text : List ℕ) : Type 0 where
  pub type : List ℕ
  pub expected : IsExpected source name fs faults f type
  pub stated : IsMessage format file source f.place (unbound_type f.name type) text

-- for each of the first faults of a module, in order, such a note or nothing
pub record AreExpectedNotes (format : MessageFormat) (file source name : List ℕ) (fs : List Interface) (faults : List Fault) (text : List ℕ) : Type 0 where
  pub count : ℕ
  pub stated : AreEach (λ f t. (t ≡ []) ⊎ IsExpectedNote format file source name fs faults f t) (take count faults) text

-- the same of module number i: the notes speak of it for the interfaces of what it imports
abbrev pub AreExpectedStatedIn : MessageFormat → List ℕ → List ℕ → ModuleSet → (ℕ → Status) → ℕ → List Fault → List ℕ → Type 0
AreExpectedStatedIn format file source p status i faults text =
    (fs : List Interface) × ArePublished status (imports_of p i) fs × AreExpectedNotes format file source (module_at p i).header.name.text fs faults text
