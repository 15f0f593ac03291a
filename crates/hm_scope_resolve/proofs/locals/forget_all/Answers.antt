use Rattle.std.specs.HashMap.{get_by_text}
use Rattle.hm_scope_resolve.proofs.DepthTables.{forgotten_more}
use Rattle.hm_scope_resolve.proofs.locals.forget_all.Goals as goal

pub names-preserved : goal.names-preserved
names-preserved c = λ x.
    forgotten_more (get_by_text c.args.depths.now) (get_by_text c.names.depths) (get_by_text c.forget.new.depths) c.args.names.now c.names.name-index c.name-item.result c.args.depth x c.names-test.true c.name-item.is (c.forget.ensures x) (c.names.invariant x)
