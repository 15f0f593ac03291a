use Rattle.std.proofs.Common.{map, Bor}
use Rattle.hm_types.specs.Interfaces.{Exports as Interface}
use Rattle.hm_scope.proofs.scoping.trees_over.Goals as goal

pub trees_with-requires-clause-edges : goal.trees_with-requires-clause-edges
trees_with-requires-clause-edges c = c.in_ok-graph.ensures.edges (map (λ (f : Bor Interface). f.now) c.args.scoped.now.interfaces.now) c.requires.scope c.requires.synonyms.names
