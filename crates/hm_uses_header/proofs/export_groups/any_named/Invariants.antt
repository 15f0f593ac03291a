use Rattle.std.proofs.Common.{take}
use Rattle.hm_uses_header.proofs.Exported.{NoneNamed}
use Rattle.hm_uses_header.proofs.export_groups.any_named.Given as goal

abbrev pub invariant-exports : goal.invariant-exports
invariant-exports l = NoneNamed (take l.export-index l.exports)
