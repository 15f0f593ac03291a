use Rattle.std.proofs.Common.{rules, ◌≡◌, length, map}
use Rattle.hm_messages_types.specs.Aliases.{alias_of}
use Rattle.hm_messages_types.proofs.Folding.{begun, ended, grown}
use Rattle.hm_messages_types.proofs.shown.folded_bytes.Goals as goal

pub loop-init : goal.loop-init
loop-init c = begun (map alias_of c.args.aliases.now) c.args.text.now c.args.text.now _ (search rules) (search rules)

pub loop-preserved : goal.loop-preserved
loop-preserved c =
    let added = c.in_ok-rest.ensures in
    grown (map alias_of c.args.aliases.now) c.args.text.now c.loop.rest.now c.in_ok-rest.rest.now c.loop.shown.items c.add_piece.new.shown.items added.0 c.loop.invariant added.1 added.2 added.3 added.4

pub returns-then-is_empty : goal.returns-then-is_empty
returns-then-is_empty c =
    let nothing : length c.loop.rest.now ≡ 0 = search rules in
    ended (map alias_of c.args.aliases.now) c.args.text.now c.loop.rest.now c.loop.shown.items c.loop.invariant nothing
