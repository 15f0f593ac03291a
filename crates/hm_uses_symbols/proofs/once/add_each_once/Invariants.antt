use Rattle.std.proofs.Common.{◌≡◌, ◌++◌}
use Rattle.hm_uses_symbols.specs.Seen.{HasSeen}
use Rattle.hm_uses_symbols.specs.Symbols.{each_once}
use Rattle.hm_uses_symbols.proofs.once.add_each_once.Given as goal

abbrev pub invariant-symbols : goal.invariant-symbols
invariant-symbols l = record {
  found : l.found.items ≡ l.fn.found.items ++ each_once l.yielded;
  seen : HasSeen l.yielded l.seen;
}
