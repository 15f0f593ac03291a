use Rattle.std.proofs.Common.{arith}
use Rattle.hm_uses_declarations.specs.Bindings.{bindings_of}
use Rattle.hm_uses_declarations.proofs.Tables.{removed_more, all_removed}
use Rattle.hm_uses_declarations.proofs.locals.remove_bindings.Goals as goal

pub names-preserved : goal.names-preserved
names-preserved c = λ x bs d e.
    removed_more d x.now c.args.names.now c.names.name-index c.name-item.result bs (bindings_of c.names.table x) (bindings_of c.remove_binding.new.table x) c.as_str.result.now c.names-test.true c.name-item.is c.as_str.ensures
    (c.names.invariant x bs d e) (c.remove_binding.ensures.others x) (c.remove_binding.ensures.last x)

pub returns : goal.returns
returns c = λ x bs d e. all_removed d x.now c.args.names.now c.names.name-index bs (bindings_of c.names.table x) c.names-test.false (c.names.invariant x bs d e)
