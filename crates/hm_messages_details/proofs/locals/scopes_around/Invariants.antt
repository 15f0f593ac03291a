use Rattle.std.proofs.Common.{[], drop, map}
use Rattle.hm_messages_details.specs.Parts.{part_of}
use Rattle.hm_messages_details.specs.Scopes.{Reaches, open_in}
use Rattle.hm_messages_details.proofs.locals.scopes_around.Given as goal

abbrev pub invariant-parts : goal.invariant-parts
invariant-parts l = Reaches [] (map part_of l.parts) (open_in l.scopes.items) (map part_of (drop l.part-index l.parts))
