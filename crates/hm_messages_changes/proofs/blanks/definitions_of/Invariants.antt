use Rattle.std.proofs.Common.{◌≡◌, map, take}
use Rattle.std.specs.Prelude.{flat_map}
use Rattle.hm_messages_changes.specs.Blanks.{defined}
use Rattle.hm_messages_changes.proofs.blanks.definitions_of.Given as goal

abbrev pub invariant-loop-name : goal.invariant-loop-name
invariant-loop-name l = l.made.items ≡ flat_map defined (map (λ n. n.now) (take l.name-index l.names))
