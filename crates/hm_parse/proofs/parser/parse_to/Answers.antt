use Rattle.hm_parse.proofs.Texts.{all_lie}
use Rattle.hm_parse.proofs.parser.parse_to.Goals as goal

pub new-parser-requires : goal.new-parser-requires
new-parser-requires c = all_lie _ _ c.requires
