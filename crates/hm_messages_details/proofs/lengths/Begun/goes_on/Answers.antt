use Rattle.std.proofs.Common.{◌∙◌, ap, not, bytes_eq}
use Rattle.hm_scope_resolve.proofs.Clauses.{goes_on_case}
use Rattle.hm_messages_details.proofs.lengths.Begun.goes_on.Goals as goal

pub returns : goal.returns
returns c = goes_on_case c.self.inside.binding c.args.self.now c.in-Some.text c.in-Some.field-0-1 c.args.name.now c.args.pats.now c.is_empty.result c.self.view_is c.in-Some.is (c.if-ne.ensures ∙ ap (λ x. not (bytes_eq c.in-Some.text.now x)) c.as_str.ensures) c.is_empty.ensures
