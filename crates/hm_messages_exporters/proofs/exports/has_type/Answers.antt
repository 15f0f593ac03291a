use Rattle.hm_messages_exporters.proofs.Exporting.{synonym_exported, type_exported, type_not_exported}
use Rattle.hm_messages_exporters.proofs.exports.has_type.Goals as goal

pub returns-then-has_name-clause-yes : goal.returns-then-has_name-clause-yes
returns-then-has_name-clause-yes c = λ e. type_exported c.args.interface.now c.args.name.now c.types.result.now c.types.ensures.value (c.has_name.ensures.yes c.if-has_name.true)

pub returns-clause-yes : goal.returns-clause-yes
returns-clause-yes c = λ e. synonym_exported c.args.interface.now c.args.name.now c.synonyms.result.now c.synonyms.ensures.value (c.has_name-2.ensures.yes e)

pub returns-clause-no : goal.returns-clause-no
returns-clause-no c = λ e.
    type_not_exported c.args.interface.now c.args.name.now c.types.result.now c.synonyms.result.now c.types.ensures.value c.synonyms.ensures.value
    (c.has_name.ensures.no c.if-has_name.false) (c.has_name-2.ensures.no e)
