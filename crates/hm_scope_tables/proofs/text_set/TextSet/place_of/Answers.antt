use Rattle.std.proofs.Common.{◌∙◌}
use Rattle.hm_scope_tables.proofs.TextSets.{place_is}
use Rattle.hm_scope_tables.proofs.text_set.TextSet.place_of.Goals as goal

pub returns : goal.returns
returns c = rw (← c.self.view_is) (c.get_index_of.ensures.index ∙ place_is c.args.text.now c.self.inside.keys.keys)
