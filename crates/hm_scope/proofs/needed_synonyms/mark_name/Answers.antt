use Rattle.std.proofs.Common.{◌<◌, length, true, false, arith, get_or-set_same}
use Rattle.hm_scope.proofs.NeededMarks.{marks_other, marks_it}
use Rattle.hm_scope.proofs.needed_synonyms.mark_name.Goals as goal

pub returns-in-None-clause-marked : goal.returns-in-None-clause-marked
returns-in-None-clause-marked c = λ m fs scope home once. marks_other m fs c.args.scoped.now.names.now c.args.marks.now c.args.name.now (c.in-None.ensures.none m fs scope home)

pub returns-in-Some-clause-marked : goal.returns-in-Some-clause-marked
returns-in-Some-clause-marked c = λ m fs scope home once.
    let inside : c.in-Some.number < length c.args.marks.now = omega (arith, c.in-Some.ensures.within, c.requires) in
    marks_it m fs c.args.scoped.now.names.now _ c.args.name.now c.in-Some.number once c.in-Some.ensures.within (get_or-set_same c.args.marks.now c.in-Some.number true false inside) (c.in-Some.ensures.own m fs scope home)
