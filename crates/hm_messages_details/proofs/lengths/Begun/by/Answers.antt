use Rattle.hm_scope_resolve.proofs.Clauses.{opened_case}
use Rattle.hm_messages_details.proofs.lengths.Begun.by.Goals as goal

pub returns : goal.returns
returns c = opened_case c.as_str.result.now c.args.name.now c.args.pats.now c.is_empty.result c.is_empty.ensures c.if-is_empty.false c.as_str.ensures
