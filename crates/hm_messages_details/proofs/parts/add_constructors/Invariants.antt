use Rattle.std.proofs.Common.{◌≡◌, ◌++◌, drop, map}
use Rattle.hm_syntax.specs.Lists.{constructors}
use Rattle.hm_messages_details.specs.Parts.{part_of, constructors_parts}
use Rattle.hm_messages_details.proofs.parts.add_constructors.Given as goal

abbrev pub invariant-row : goal.invariant-row
invariant-row l = map part_of l.out.items ++ constructors_parts (constructors (drop l.constr-index l.row)) ≡ map part_of l.fn.out.items ++ constructors_parts (constructors l.row)
