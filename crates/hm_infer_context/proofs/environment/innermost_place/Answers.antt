use Rattle.hm_names_keys.specs.Keys.{variable_of_key}
use Rattle.hm_infer_context.proofs.PlacedFirst.{either_place, last_is_innermost}
use Rattle.hm_infer_context.proofs.environment.innermost_place.Goals as goal

pub returns-in-Some : goal.returns-in-Some
returns-in-Some c = last_is_innermost c.args.items.now (variable_of_key c.args.key.now) c.in-Some.place c.in-Some.ensures

pub returns-in-None : goal.returns-in-None
returns-in-None c = either_place c.args.items.now c.args.placed c.args.table.now (variable_of_key c.args.key.now) c.place_of.result c.requires c.in-None.ensures c.place_of.ensures
