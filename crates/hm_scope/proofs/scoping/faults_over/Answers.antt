use Rattle.std.proofs.Common.{map, Bor}
use Rattle.hm_types.specs.Interfaces.{Exports as Interface}
use Rattle.hm_scope.proofs.ModuleAnswers.{are_tree_faults}
use Rattle.hm_scope.proofs.scoping.faults_over.Goals as goal

pub returns : goal.returns
returns c =
    let m = c.args.scoped.now.program.now in
    let fs = map (λ (f : Bor Interface). f.now) c.args.scoped.now.interfaces.now in
    let edges = c.in_ok-graph.ensures.edges fs c.requires.scope c.requires.synonyms.names in
    are_tree_faults m fs _ c.in_ok-noted.noted.items c.in_ok-recursive.recursive.items c.in_ok-noted.ensures c.in_ok-by_phases.ensures.lists c.in_ok-by_phases.ensures.names c.in_ok-by_phases.ensures.numbers
    (c.in_ok-recursive.ensures fs c.requires.synonyms.names edges)
