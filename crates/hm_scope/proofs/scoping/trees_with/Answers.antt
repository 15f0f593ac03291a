use Rattle.std.proofs.Common.{map, Bor}
use Rattle.hm_types.specs.Interfaces.{Exports as Interface}
use Rattle.hm_scope.proofs.scoping.trees_with.Goals as goal

pub returns : goal.returns
returns c =
    let fs = map (λ (f : Bor Interface). f.now) c.args.scoped.now.interfaces.now in
    c.in_ok-trees_of.ensures c.args.scoped.now.program.now fs c.in_ok-walked.ensures (c.in_ok-recursive.ensures fs c.requires.synonyms.names c.requires.edges)
