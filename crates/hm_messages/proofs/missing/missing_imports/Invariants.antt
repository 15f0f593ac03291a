use Rattle.std.proofs.Common.{◌≡◌, filter, map, take}
use Rattle.hm_messages.specs.Missing.{import_of, names_none, set_imports}
use Rattle.hm_messages.proofs.missing.missing_imports.Given as goal

abbrev pub invariant-loop-here : goal.invariant-loop-here
invariant-loop-here l = map import_of l.found.items ≡ filter (names_none l.names) (set_imports (take l.here-index l.located))
