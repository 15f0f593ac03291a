use Rattle.std.proofs.Common.{◌∙◌}
use Rattle.hm_scope_tables.proofs.TextSets.{any_is}
use Rattle.hm_scope_tables.proofs.text_set.TextSet.contains.Goals as goal

pub returns : goal.returns
returns c = rw (← c.self.view_is) (c.contains.ensures ∙ any_is c.args.text.now c.self.inside.keys.keys)
