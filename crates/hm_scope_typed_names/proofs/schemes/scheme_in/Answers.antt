use Rattle.hm_scope_typed_names.proofs.SeveralSchemes.{constructor_scheme, no_constructor, no_variable, variable_scheme}
use Rattle.hm_scope_typed_names.proofs.schemes.scheme_in.Goals as goal

pub returns-in-Some-clause-some : goal.returns-in-Some-clause-some
returns-in-Some-clause-some c =
    constructor_scheme c.args.interface.now c.args.binding.now c.space.result c.constructors.result.now c.in-Some.entry.now c.space.ensures c.in-Constructors.is c.constructors.ensures.value c.in-Some.ensures.some

pub returns-in-None-clause-none : goal.returns-in-None-clause-none
returns-in-None-clause-none c =
    no_constructor c.args.interface.now c.args.binding.now c.space.result c.constructors.result.now c.space.ensures c.in-Constructors.is c.constructors.ensures.value c.in-None.ensures.none

pub returns-in-Some-entry_of-clause-some : goal.returns-in-Some-entry_of-clause-some
returns-in-Some-entry_of-clause-some c =
    variable_scheme c.args.interface.now c.args.binding.now c.space.result c.values.result.now c.in-Some-entry_of.entry.now c.space.ensures c.in-Values.is c.values.ensures.value c.in-Some-entry_of.ensures.some

pub returns-in-None-entry_of-clause-none : goal.returns-in-None-entry_of-clause-none
returns-in-None-entry_of-clause-none c =
    no_variable c.args.interface.now c.args.binding.now c.space.result c.values.result.now c.space.ensures c.in-Values.is c.values.ensures.value c.in-None-entry_of.ensures.none
