-- The phases in which a fault of a kind is found. The last one is that of types.
use Rattle.std.specs.Prelude.{◌<◌, ℕ}
use Rattle.hm_names.specs.declared.faults.Kind.{Kind}
use Rattle.hm_names.specs.declared.faults.Kind.TheVariants.{NotExported, Duplicate, NoBinding, Unbound, Ambiguous, ExportClash, NotImported, NonLinear, Arity, ClauseLength, Untyped, Recursive}

-- the first phase: a name of an export list may be unbound or ambiguous, and a name elsewhere
abbrev pub first_phase : Kind → ℕ
first_phase NotExported = 1
first_phase Duplicate = 2
first_phase NoBinding = 2
first_phase Unbound = 3
first_phase Ambiguous = 3
first_phase ExportClash = 3
first_phase NotImported = 3
first_phase NonLinear = 4
first_phase Arity = 5
first_phase ClauseLength = 5
first_phase Untyped = 6
first_phase Recursive = 5

-- the last phase
abbrev pub last_phase : Kind → ℕ
last_phase NotExported = 1
last_phase Duplicate = 2
last_phase NoBinding = 2
last_phase Unbound = 4
last_phase Ambiguous = 4
last_phase ExportClash = 3
last_phase NotImported = 3
last_phase NonLinear = 4
last_phase Arity = 5
last_phase ClauseLength = 5
last_phase Untyped = 6
last_phase Recursive = 5

-- faults of the first kind are of earlier phases than those of the second
abbrev pub IsEarlier : Kind → Kind → Type 0
IsEarlier k l = last_phase k < first_phase l
