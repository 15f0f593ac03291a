use Rattle.hm_graph_components.specs.Digraph.{lists}
use Rattle.hm_syntax.specs.Lists.{declarations}
use Rattle.hm_infer_context.specs.Constructors.{known_of}
use Rattle.hm_infer.proofs.SignedStarts.{tells_signed}
use Rattle.hm_infer.proofs.signed_starts.signed_starts.Goals as goal

pub returns : goal.returns
returns c = tells_signed (known_of c.args.list.now.constructors.now) c.args.list.now.decls.now c.args.list.now.found.now.numbers (lists c.args.list.now.found.now.rows.items) (lists c.args.list.now.found.now.groups.items) c.args.inference.now.environment c.args.typed.now c.in_ok-signed_faults.field-0.items c.requires.closed (c.in_ok-signed_faults.ensures.told (declarations c.args.list.now.decls.now) c.requires.signatures)
