use Rattle.std.proofs.Common.{◌≡◌, take}
use Rattle.std.specs.Prelude.{flat_map}
use Rattle.hm_messages_changes.specs.Probes.{listed}
use Rattle.hm_messages_copies.proofs.changed.all_listed.Given as goal

abbrev pub invariant-loop-name : goal.invariant-loop-name
invariant-loop-name l = l.made.items ≡ flat_map (listed l.source) (take l.name-index l.names)
