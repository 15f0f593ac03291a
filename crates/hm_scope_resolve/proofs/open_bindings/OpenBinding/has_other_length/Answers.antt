use Rattle.hm_scope_resolve.proofs.Clauses.{other_length_case}
use Rattle.hm_scope_resolve.proofs.open_bindings.OpenBinding.has_other_length.Goals as goal

pub returns : goal.returns
returns c = other_length_case c.self.inside.binding c.args.self.now c.in-Some.field-0-0 c.in-Some.count c.args.pats.now c.self.view_is c.in-Some.is
