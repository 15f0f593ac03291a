use Rattle.std.proofs.Common.{◌∙◌, ◌++◌, ap, arith}
use Rattle.hm_uses_declarations.specs.Bindings.{bindings_of, bound_in}
use Rattle.hm_uses_declarations.proofs.Tables.{entered}
use Rattle.hm_uses_declarations.proofs.locals.enter_group.Goals as goal

pub returns-clause-table : goal.returns-clause-table
returns-clause-table c = λ known.
    entered c.args.table.now c.add_bindings.new.table c.args.groups.now.items c.push.new.self.items c.args.names c.len.result
    (λ x. c.in_ok-add_bindings.ensures x ∙ ap (λ g. bindings_of c.args.table.now x ++ bound_in c.len.result x.now g) c.as_slice.ensures) (omega (arith, c.len.ensures, c.args.groups.now.ok.0)) c.in_ok-push.ensures.items known
