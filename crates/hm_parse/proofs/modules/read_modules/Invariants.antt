use Rattle.std.proofs.Common.{◌≡◌, length}
use Rattle.hm_parse_grammar.specs.Reading.Basics.{loop, behind}
use Rattle.hm_parse_grammar.specs.Reading.Modules.{next_module}
use Rattle.hm_parse.proofs.modules.read_modules.Given as goal

abbrev pub invariant-modules : goal.invariant-modules
invariant-modules l = behind l.modules.items (loop next_module l.parser) ≡ loop next_module l.fn.parser

abbrev pub decreases-modules : goal.decreases-modules
decreases-modules l = length l.parser
