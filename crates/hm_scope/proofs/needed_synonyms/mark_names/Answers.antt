use Rattle.std.proofs.Common.{List, Bor, map}
use Rattle.hm_syntax.specs.Names.{Identifier}
use Rattle.hm_scope.specs.NeededSynonyms.{MarksNames}
use Rattle.hm_scope.proofs.NeededMarks.{both_marks, marks_more}
use Rattle.hm_scope.proofs.SynonymReferences.{all_of}
use Rattle.hm_scope.proofs.needed_synonyms.mark_names.Goals as goal

pub used-preserved : goal.used-preserved
used-preserved c = record {
  added = both_marks c.args.marks.now c.used.marks c.mark_name.new.marks c.used.invariant.added c.mark_name.ensures.added;
  marked = λ m fs scope home once. marks_more m fs c.args.scoped.now.names.now c.used.marks c.mark_name.new.marks c.args.used.now c.used.name-index c.name-item.result c.used-test.true c.name-item.is c.mark_name.ensures.added
      (c.used.invariant.marked m fs scope home once) (c.mark_name.ensures.marked m fs scope home once);
}

pub returns-clause-marked : goal.returns-clause-marked
returns-clause-marked c = λ m fs scope home once. all_of (λ (l : List (Bor Identifier)). MarksNames m fs c.args.scoped.now.names.now c.used.marks (map (λ n. n.now) l)) c.args.used.now c.used.name-index c.used-test.false (c.used.invariant.marked m fs scope home once)
