use Rattle.std.proofs.Common.{refl, ap, sym, ◌∙◌}
use Rattle.hm_uses_declarations.specs.Bindings.{bindings_of, binding_at}
use Rattle.hm_uses_declarations.proofs.Tables.{added_more}
use Rattle.hm_uses_declarations.proofs.locals.add_bindings.Goals as goal

pub names-preserved : goal.names-preserved
names-preserved c = λ x.
    added_more c.args.depth x.now c.args.names.now c.names.behind _ c.index-names-place.result (bindings_of c.args.table.now x) (bindings_of c.names.table x) (bindings_of c.add_binding.new.table x) c.as_str.result.now _ c.names-test.true refl c.index-names-place.is
    c.as_str.ensures (ap (binding_at c.args.depth) c.name.view_is) (c.names.invariant x) (c.in_ok-add_binding.ensures x)
