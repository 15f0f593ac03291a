use Rattle.std.proofs.Common.{◌++◌, take, List}
use Rattle.hm_types.specs.declared.entries.ValueEntry.{ValueEntry}
use Rattle.hm_scope_interface_entries.specs.KnownExports.{KnowsValues}
use Rattle.hm_scope_interface_entries.proofs.known_exports.note_value_entries.Given as goal

abbrev pub invariant-loop-entry : goal.invariant-loop-entry
invariant-loop-entry l = (ds : List ValueEntry) → KnowsValues ds l.initial.values → KnowsValues (ds ++ take l.entry-index l.entries) l.values
