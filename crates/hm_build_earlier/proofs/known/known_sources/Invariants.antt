use Rattle.std.proofs.Common.{All}
use Rattle.hm_build_earlier.specs.Known.{IsKnown}
use Rattle.hm_build_earlier.proofs.known.known_sources.Given as goal

abbrev pub invariant-loop-index : goal.invariant-loop-index
invariant-loop-index l = All IsKnown l.list.items
