use Rattle.std.proofs.Common.{rules}
use Rattle.hm_types.proofs.Matched.{args_smaller, item_smaller}
use Rattle.hm_messages_type_names.proofs.entities.+entities.Goals as goal

pub add_entities-add_all-requires : goal.add_entities-add_all-requires
add_entities-add_all-requires t c =
    let smaller = args_smaller c.args.ty.now c.in-App.head _ c.as_slice.result.now c.in-App.is c.as_slice.ensures in
    search rules

pub add_all-add_entities-requires : goal.add_all-add_entities-requires
add_all-add_entities-requires t c =
    let smaller = item_smaller _ _ c.index-types-index.result c.loop-index-test.true c.index-types-index.is in
    search rules
