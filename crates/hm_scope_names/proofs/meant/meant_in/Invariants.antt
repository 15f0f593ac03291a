use Rattle.std.proofs.Common.{take}
use Rattle.hm_scope_names.specs.Meant.{AreMeantIn}
use Rattle.hm_scope_names.proofs.meant.meant_in.Given as goal

abbrev pub invariant-pairs : goal.invariant-pairs
invariant-pairs l = AreMeantIn l.pairs (take l.pair-index l.pairs) l.seen l.names.items
