use Rattle.std.proofs.Common.{◌≡◌, length}
use Rattle.hm_parse_grammar.specs.Reading.Basics.{loop, behind}
use Rattle.hm_parse_grammar.specs.Reading.Headers.{next_import}
use Rattle.hm_parse.proofs.modules.read_imports.Given as goal

abbrev pub invariant-imports : goal.invariant-imports
invariant-imports l = behind l.items.items (loop next_import l.parser) ≡ loop next_import l.fn.parser

abbrev pub decreases-imports : goal.decreases-imports
decreases-imports l = length l.parser
