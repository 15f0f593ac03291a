use Rattle.std.proofs.Common.{take}
use Rattle.hm_uses_header.proofs.Named.{HasEach}
use Rattle.hm_uses_header.proofs.interfaces.by_name.Given as goal

abbrev pub invariant-interfaces : goal.invariant-interfaces
invariant-interfaces l = HasEach (take l.interface-index l.interfaces) l.table
