use Rattle.std.proofs.Common.{◌∙◌, ◌∷◌, [], ap, map}
use Rattle.std.proofs.lemmas.List.{map-append}
use Rattle.hm_messages_details.specs.Parts.{part_of}
use Rattle.hm_messages_details.proofs.parts.add_part.Goals as goal

pub returns : goal.returns
returns c = ap (map part_of) c.in_ok-push.ensures.items ∙ map-append part_of c.args.out.now.items (c.args.part ∷ [])
