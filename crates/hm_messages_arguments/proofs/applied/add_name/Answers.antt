use Rattle.std.proofs.Common.{◌∙◌, ◌∷◌, [], ap, map}
use Rattle.std.proofs.lemmas.List.{map-append}
use Rattle.hm_messages_arguments.specs.Applied.{applied_of}
use Rattle.hm_messages_arguments.proofs.applied.add_name.Goals as goal

pub returns : goal.returns
returns c = ap (map applied_of) c.in_ok-push.ensures.items ∙ map-append applied_of c.args.out.now.items (_ ∷ [])
