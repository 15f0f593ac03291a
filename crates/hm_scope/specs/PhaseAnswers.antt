-- The results of one phase, and of all phases. No public clause names these.
use Rattle.std.specs.Prelude.{Bool, true, false, ◌<◌, ◌↔◌, List, Option, None, Some, Contains}
use Rattle.hm_types.specs.Interfaces.{Exports as Interface}
use Rattle.hm_syntax.specs.declared.ast.Module.{Module}
use Rattle.hm_names.specs.declared.faults.Kind.{Kind}
use Rattle.hm_names.specs.declared.faults.Kind.TheVariants.{NotExported, Duplicate, NoBinding, Unbound, Ambiguous, ExportClash, NotImported, NonLinear, Arity, ClauseLength, Untyped, Recursive}
use Rattle.hm_names.specs.declared.faults.Fault.{Fault}
use Rattle.hm_names.specs.Faults.Phases.{Phase, phase_number, HasFault, IsWellFormed, AreFaults}

-- the list has exactly the faults of the phase
abbrev pub AreExact : Module → List Interface → Phase → List Fault → Type 0
AreExact m fs p found = (f : Fault) → Contains found f ↔ HasFault m fs p f

-- no result if the phase has no fault; else the faults of the module, if no earlier phase has any
abbrev pub IsPhaseAnswer : Module → List Interface → Phase → Option (List Fault) → Type 0
IsPhaseAnswer m fs p None = (f : Fault) → ¬ (HasFault m fs p f)
IsPhaseAnswer m fs p (Some found) = ((q : Phase) → phase_number q < phase_number p → (f : Fault) → ¬ (HasFault m fs q f)) → AreFaults m fs found

-- the kinds of faults in trees, by phase: of declaration lists, of names, and of numbers of arguments and patterns
abbrev pub lists_kind : Kind → Bool
lists_kind NotExported = false
lists_kind Duplicate = true
lists_kind NoBinding = true
lists_kind Unbound = false
lists_kind Ambiguous = false
lists_kind ExportClash = false
lists_kind NotImported = false
lists_kind NonLinear = false
lists_kind Arity = false
lists_kind ClauseLength = false
lists_kind Untyped = false
lists_kind Recursive = false

abbrev pub is_of_lists : Fault → Bool
is_of_lists f = lists_kind f.kind

abbrev pub names_kind : Kind → Bool
names_kind NotExported = false
names_kind Duplicate = false
names_kind NoBinding = false
names_kind Unbound = true
names_kind Ambiguous = true
names_kind ExportClash = false
names_kind NotImported = false
names_kind NonLinear = true
names_kind Arity = false
names_kind ClauseLength = false
names_kind Untyped = false
names_kind Recursive = false

abbrev pub is_of_names : Fault → Bool
is_of_names f = names_kind f.kind

abbrev pub numbers_kind : Kind → Bool
numbers_kind NotExported = false
numbers_kind Duplicate = false
numbers_kind NoBinding = false
numbers_kind Unbound = false
numbers_kind Ambiguous = false
numbers_kind ExportClash = false
numbers_kind NotImported = false
numbers_kind NonLinear = false
numbers_kind Arity = true
numbers_kind ClauseLength = true
numbers_kind Untyped = false
numbers_kind Recursive = false

abbrev pub is_of_numbers : Fault → Bool
is_of_numbers f = numbers_kind f.kind

-- no result if the module is well-formed, else its faults
abbrev pub AreFirstFaults : Module → List Interface → Option (List Fault) → Type 0
AreFirstFaults m fs None = IsWellFormed m fs
AreFirstFaults m fs (Some found) = AreFaults m fs found
