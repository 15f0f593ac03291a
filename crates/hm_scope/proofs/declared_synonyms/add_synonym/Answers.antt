use Rattle.hm_scope.proofs.SynonymReferences.{synonym_new, synonym_old, when_not, when_so}
use Rattle.std.proofs.Common.{refl}
use Rattle.hm_scope.proofs.declared_synonyms.add_synonym.Goals as goal

pub returns-in_ok-push : goal.returns-in_ok-push
returns-in_ok-push c = λ ds are. synonym_new ds c.args.synonyms.now _ c.args.synonym c.as_str.result.now c.as_str.ensures (when_not _ _ c.in_ok-insert.ensures.added c.if-branch.true) c.in_ok-insert.ensures.texts c.in_ok-push.ensures.items are

pub returns-else-branch : goal.returns-else-branch
returns-else-branch c = λ ds are. synonym_old ds c.args.synonyms.now _ c.args.synonym c.as_str.result.now c.as_str.ensures (when_so _ _ c.in_ok-insert.ensures.added c.if-branch.false) c.in_ok-insert.ensures.texts refl are
