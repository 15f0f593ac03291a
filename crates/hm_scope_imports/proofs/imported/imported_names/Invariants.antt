use Rattle.std.proofs.Common.{◌≡◌, ◌++◌, map, drop}
use Rattle.hm_names.specs.Imports.{imported, imported_after}
use Rattle.hm_scope_imports.proofs.imported.imported_names.Given as goal

abbrev pub invariant-loop-import : goal.invariant-loop-import
invariant-loop-import l = map (λ n. n.now) l.names.items ++ imported_after l.seen (drop l.import-index l.import-items) ≡ imported l.«module»
