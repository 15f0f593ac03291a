use Rattle.std.proofs.Common.{List, Option, map, Bor, subst}
use Rattle.hm_types.specs.Interfaces.{Exports as Interface}
use Rattle.hm_names.specs.declared.faults.Fault.{Fault}
use Rattle.hm_scope.specs.PhaseAnswers.{AreFirstFaults}
use Rattle.hm_scope.proofs.ModuleAnswers.{resolved_module}
use Rattle.hm_scope.proofs.scoping.answer_with_trees.Goals as goal

pub returns : goal.returns
returns c = λ i.
    let m = c.args.scoped.now.program.now in
    let fs = map (λ (f : Bor Interface). f.now) c.args.scoped.now.interfaces.now in
    let trees = c.requires.trees in
    let found = c.in_ok-found.ensures m fs trees.lists c.requires.exports.exact trees.names trees.numbers i in
    resolved_module m fs c.args.trees c.args.exports trees c.requires.exports (subst (λ (o : Option (List Fault)). AreFirstFaults m fs o) c.in-None.is found)

pub returns-in-Some : goal.returns-in-Some
returns-in-Some c = λ i.
    let m = c.args.scoped.now.program.now in
    let fs = map (λ (f : Bor Interface). f.now) c.args.scoped.now.interfaces.now in
    let trees = c.requires.trees in
    let found = c.in_ok-found.ensures m fs trees.lists c.requires.exports.exact trees.names trees.numbers i in
    subst (λ (o : Option (List Fault)). AreFirstFaults m fs o) c.in-Some.is found
