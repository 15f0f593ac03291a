use Rattle.hm_messages_exporters.proofs.Exporting.{constructor_exported, constructor_not_exported, value_exported, value_not_exported}
use Rattle.hm_messages_exporters.proofs.exports.is_exported.Goals as goal

pub returns-in-Constructors-clause-yes : goal.returns-in-Constructors-clause-yes
returns-in-Constructors-clause-yes c = λ e.
    rw c.in-Constructors.is (constructor_exported c.args.interface.now c.args.name.now c.constructors.result.now c.constructors.ensures.value (c.has_name.ensures.yes e))

pub returns-in-Constructors-clause-no : goal.returns-in-Constructors-clause-no
returns-in-Constructors-clause-no c = λ e.
    rw c.in-Constructors.is (constructor_not_exported c.args.interface.now c.args.name.now c.constructors.result.now c.constructors.ensures.value (c.has_name.ensures.no e))

pub returns-in-Values-clause-yes : goal.returns-in-Values-clause-yes
returns-in-Values-clause-yes c = λ e.
    rw c.in-Values.is (value_exported c.args.interface.now c.args.name.now c.values.result.now c.values.ensures.value (c.has_name-in-Values.ensures.yes e))

pub returns-in-Values-clause-no : goal.returns-in-Values-clause-no
returns-in-Values-clause-no c = λ e.
    rw c.in-Values.is (value_not_exported c.args.interface.now c.args.name.now c.values.result.now c.values.ensures.value (c.has_name-in-Values.ensures.no e))
