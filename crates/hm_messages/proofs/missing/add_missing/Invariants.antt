use Rattle.std.proofs.Common.{◌≡◌, ◌++◌, filter, map, take}
use Rattle.hm_messages.specs.Missing.{import_of, names_none, set_import}
use Rattle.hm_messages.proofs.missing.add_missing.Given as goal

abbrev pub invariant-loop-import : goal.invariant-loop-import
invariant-loop-import l = map import_of l.found.items ≡ map import_of l.fn.found.items ++ filter (names_none l.names) (map (set_import l.here.source) (take l.import-index l.import-items))
