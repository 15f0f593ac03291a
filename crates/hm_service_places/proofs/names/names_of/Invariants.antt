use Rattle.std.proofs.Common.{◌≡◌, map, take}
use Rattle.hm_service_places.specs.Names.{names_of}
use Rattle.hm_service_places.proofs.names.names_of.Given as goal

abbrev pub invariant-loop-number : goal.invariant-loop-number
invariant-loop-number l = map (λ n. n.items) l.names.items ≡ names_of (take l.number-index l.numbers)
