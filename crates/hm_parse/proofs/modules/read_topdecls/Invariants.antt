use Rattle.std.proofs.Common.{◌≡◌, length}
use Rattle.hm_parse_grammar.specs.Reading.Basics.{loop, behind}
use Rattle.hm_parse_grammar.specs.Reading.Modules.{next_topdecl}
use Rattle.hm_parse.proofs.modules.read_topdecls.Given as goal

abbrev pub invariant-topdecls : goal.invariant-topdecls
invariant-topdecls l = behind l.items.items (loop next_topdecl l.parser) ≡ loop next_topdecl l.fn.parser

abbrev pub decreases-topdecls : goal.decreases-topdecls
decreases-topdecls l = length l.parser
