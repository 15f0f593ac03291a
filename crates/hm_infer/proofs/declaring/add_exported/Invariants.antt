use Rattle.std.proofs.Common.{◌≡◌, ◌++◌, map, drop}
use Rattle.hm_types.specs.declared.entries.ConstructorEntry.{ConstructorEntry}
use Rattle.hm_names.specs.Cores.{ConstructorScheme}
use Rattle.hm_infer_context.specs.Kept.{schemes_of}
use Rattle.hm_infer.proofs.declaring.add_exported.Given as goal

abbrev pub of_entry : ConstructorEntry → ConstructorScheme
of_entry r = record { entity = r.entity; scheme = r.scheme }

abbrev pub invariant-exported : goal.invariant-exported
invariant-exported l = schemes_of l.entries.items ++ map of_entry (drop l.entry-index l.exported) ≡ schemes_of l.initial.entries.items ++ map of_entry l.exported
