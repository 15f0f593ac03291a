use Rattle.std.proofs.Common.{take}
use Rattle.hm_infer_dependencies.specs.Walks.{Shows}
use Rattle.hm_infer_dependencies.proofs.hiding.show.Given as goal

abbrev pub invariant-loop-number : goal.invariant-loop-number
invariant-loop-number l = Shows (take l.number-index l.noted) l.initial.shown l.shown
