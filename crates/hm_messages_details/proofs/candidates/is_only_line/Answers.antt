use Rattle.hm_messages_details.specs.Candidates.{IsInLine}
use Rattle.hm_messages_details.proofs.Meant.{each_end, each_more}
use Rattle.hm_messages_details.proofs.candidates.is_only_line.Goals as goal

pub imports-preserved : goal.imports-preserved
imports-preserved c = each_more (IsInLine c.args.qualifier.now c.args.line) c.args.imports.now c.imports.import-index c.import-item.result c.imports-test.true c.import-item.is c.imports.invariant (c.is_in_line.ensures c.if-not-is_in_line.false)

pub returns : goal.returns
returns c = λ _. each_end (IsInLine c.args.qualifier.now c.args.line) c.args.imports.now c.imports.import-index c.imports-test.false c.imports.invariant
