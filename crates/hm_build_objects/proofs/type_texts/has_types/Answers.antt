use Rattle.std.proofs.Common.{not, ap, ◌∙◌}
use Rattle.hm_build_objects.proofs.Declaring.{some_types}
use Rattle.hm_build_objects.proofs.type_texts.has_types.Goals as goal

pub returns : goal.returns
returns c = ap not c.is_empty.ensures ∙ some_types c.args.row.now
