use Rattle.std.proofs.Common.{◌≡◌, ◌++◌, take, string_bytes}
use Rattle.std.specs.List.{flat_map}
use Rattle.hm_types_display.specs.InterfaceTexts.{type_line}
use Rattle.hm_types_display.proofs.interface_lines.write_types.Given as goal

abbrev pub invariant-loop-entry : goal.invariant-loop-entry
invariant-loop-entry l = string_bytes l.out ≡ string_bytes l.initial.out ++ flat_map type_line (take l.entry-index l.entries)
