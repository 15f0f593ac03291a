use Rattle.std.proofs.Common.{map}
use Rattle.hm_messages_types.specs.Aliases.{alias_of}
use Rattle.hm_messages_types.proofs.Folding.{IsFoldedTo}
use Rattle.hm_messages_types.proofs.shown.folded_bytes.Given as goal

abbrev pub invariant-loop : goal.invariant-loop
invariant-loop l = IsFoldedTo (map alias_of l.aliases) l.text l.rest l.shown.items
