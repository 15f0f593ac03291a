use Rattle.std.proofs.Common.{rules}
use Rattle.hm_messages_changes.specs.Blanks.{defined}
use Rattle.hm_messages_changes.proofs.Pieces.{named_more}
use Rattle.hm_messages_changes.proofs.blanks.definitions_of.Goals as goal

pub loop-name-preserved : goal.loop-name-preserved
loop-name-preserved c =
    named_more defined c.args.names.now c.loop-name.name-index _ c.loop-name.made.items c.extend_from_slice.new.self.items c.in_ok-definition.definition.items c.loop-name-test.true
    c.loop-name.invariant c.in_ok-definition.ensures (search rules)
