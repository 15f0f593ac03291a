use Rattle.std.proofs.Common.{sym, ◌∙◌}
use Rattle.hm_scope_resolve.proofs.DepthTables.{this_has, none_has}
use Rattle.hm_scope_resolve.proofs.locals.is_in_any.Goals as goal

pub returns-then-has : goal.returns-then-has
returns-then-has c = this_has c.args.groups.now c.groups.group-index c.group-item.result c.args.text.now c.groups-test.true c.group-item.is (sym c.has.ensures ∙ c.if-has.true)

pub groups-preserved : goal.groups-preserved
groups-preserved c = none_has c.args.groups.now c.groups.group-index c.group-item.result c.args.text.now c.groups-test.true c.group-item.is (sym c.has.ensures ∙ c.if-has.false) c.groups.invariant
