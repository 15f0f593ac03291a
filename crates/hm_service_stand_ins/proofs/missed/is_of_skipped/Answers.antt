use Rattle.std.proofs.lemmas.List.{take_all}
use Rattle.hm_service_stand_ins.specs.Missed.{IsSkipOf}
use Rattle.hm_service_stand_ins.proofs.Each.{none_found, none_more, one_found}
use Rattle.hm_service_stand_ins.proofs.missed.is_of_skipped.Goals as goal

pub notes-preserved : goal.notes-preserved
notes-preserved c =
    none_more (IsSkipOf c.args.number c.args.diagnostic.now) c.args.said.now.told.now c.notes.note-index c.note-item.result c.notes-test.true c.note-item.is (c.is_skip_of.ensures.no c.if-is_skip_of.false) c.notes.invariant

pub returns-then-is_skip_of-clause-yes : goal.returns-then-is_skip_of-clause-yes
returns-then-is_skip_of-clause-yes c = λ _.
    one_found (IsSkipOf c.args.number c.args.diagnostic.now) c.args.said.now.told.now c.notes.note-index c.note-item.result c.notes-test.true c.note-item.is (c.is_skip_of.ensures.yes c.if-is_skip_of.true)

pub returns-clause-no : goal.returns-clause-no
returns-clause-no c = λ _.
    none_found (IsSkipOf c.args.number c.args.diagnostic.now) c.args.said.now.told.now c.notes.note-index (take_all c.notes.note-index c.args.said.now.told.now c.notes-test.false) c.notes.invariant
