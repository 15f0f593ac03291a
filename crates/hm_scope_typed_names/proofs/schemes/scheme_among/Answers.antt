use Rattle.hm_scope_typed_names.proofs.SeveralSchemes.{found_at, none_at_all, none_more}
use Rattle.hm_scope_typed_names.proofs.schemes.scheme_among.Goals as goal

pub returns-in-Some-clause-some : goal.returns-in-Some-clause-some
returns-in-Some-clause-some c =
    found_at c.args.interfaces.now c.interfaces.interface-index c.interface-item.result c.args.binding.now c.in-Some.scheme.now c.interfaces-test.true c.interface-item.is c.in-Some.ensures.some

pub interfaces-preserved : goal.interfaces-preserved
interfaces-preserved c =
    none_more c.args.interfaces.now c.interfaces.interface-index c.interface-item.result c.args.binding.now c.interfaces-test.true c.interface-item.is c.interfaces.invariant c.in_default.ensures.none

pub returns-clause-none : goal.returns-clause-none
returns-clause-none c = none_at_all c.args.interfaces.now c.interfaces.interface-index c.args.binding.now c.interfaces-test.false c.interfaces.invariant
