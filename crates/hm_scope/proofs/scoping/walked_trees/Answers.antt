use Rattle.std.proofs.Common.{map, Bor}
use Rattle.std.proofs.lemmas.Result.{IfOk-weaker}
use Rattle.hm_types.specs.Interfaces.{Exports as Interface}
use Rattle.hm_scope.proofs.scoping.walked_trees.Goals as goal

pub returns : goal.returns
returns c = IfOk-weaker c.walked_with.result _ _ (λ walked h. h (map (λ (f : Bor Interface). f.now) c.args.scoped.now.interfaces.now) c.requires.scope c.in_ok-tables.ensures c.requires.edges c.requires.exported) c.walked_with.ensures
