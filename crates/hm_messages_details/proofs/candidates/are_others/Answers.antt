use Rattle.hm_messages_details.specs.Candidates.{IsOther}
use Rattle.hm_messages_details.proofs.Meant.{each_end, each_more}
use Rattle.hm_messages_details.proofs.candidates.are_others.Goals as goal

pub imports-preserved : goal.imports-preserved
imports-preserved c = each_more IsOther c.args.imports.now c.imports.import-index c.import-item.result c.imports-test.true c.import-item.is c.imports.invariant (c.is_other.ensures c.if-not-is_other.false)

pub returns : goal.returns
returns c = λ _. each_end IsOther c.args.imports.now c.imports.import-index c.imports-test.false c.imports.invariant
