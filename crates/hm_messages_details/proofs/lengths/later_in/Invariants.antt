use Rattle.std.proofs.Common.{◌≡◌, ◌++◌, None, drop, map}
use Rattle.hm_syntax.specs.Lists.{declarations}
use Rattle.hm_messages_details.specs.Counts.{later_clauses}
use Rattle.hm_messages_details.specs.Parts.{later_of}
use Rattle.hm_messages_details.proofs.lengths.later_in.Given as goal

abbrev pub invariant-decls : goal.invariant-decls
invariant-decls l = map later_of l.found.items ++ later_clauses l.begun (declarations (drop l.decl-index l.decls)) ≡ later_clauses None (declarations l.decls)
