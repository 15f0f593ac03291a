-- which modules reach a module, from the lists of importers
use Rattle.std.proofs.Common.{ℕ, Bool, List, ◌↔◌, arith}
use Rattle.hm_graph_components.specs.Closure.{one, more}
use Rattle.hm_graph_components.specs.Digraph.{Graph, Edge, Reaches}
use Rattle.hm_graph_components.specs.Marks.{IsClosed, IsMarked, MarksReached}
use Rattle.hm_graph.specs.Steps.{AreImporters}
use Rattle.hm_graph_components.proofs.Closures.{Closure-trans}
use Rattle.hm_graph_components.proofs.Graphs.{Reaches-within}

-- the edges to importers lead to modules
pub IsClosed-importers : (plan importers : Graph) → AreImporters plan importers → IsClosed importers
IsClosed-importers plan importers are x y edge = omega (arith, are.len, (((are.rows x).members y).0 edge).0)

-- an edge to an importer is an import turned round
importer_edge : (plan importers : Graph) (x y : ℕ) → AreImporters plan importers → Edge importers x y → Edge plan y x
importer_edge plan importers x y are edge = (((are.rows x).members y).0 edge).1

import_edge : (plan importers : Graph) (x y : ℕ) → AreImporters plan importers → Edge plan y x → Edge importers x y
import_edge plan importers x y are edge = ((are.rows x).members y).1 (Reaches-within plan y x (one edge), edge)

pub Reaches-turned : (plan importers : Graph) (x y : ℕ) → AreImporters plan importers → Reaches importers x y → Reaches plan y x
Reaches-turned plan importers x y are (one edge) = one (importer_edge plan importers x y are edge)
Reaches-turned plan importers x y are (more {b = z} before edge) = Closure-trans (one (importer_edge plan importers z y are edge)) (Reaches-turned plan importers x z are before)

pub Reaches-back : (plan importers : Graph) (y x : ℕ) → AreImporters plan importers → Reaches plan y x → Reaches importers x y
Reaches-back plan importers y x are (one edge) = one (import_edge plan importers x y are edge)
Reaches-back plan importers y x are (more {b = z} before edge) = Closure-trans (one (import_edge plan importers x z are edge)) (Reaches-back plan importers y z are before)

-- the marks of what is reached through importers are at the modules that reach the module
pub marked_dependents : (plan importers : Graph) (m : ℕ) (marks : List Bool) → AreImporters plan importers → MarksReached importers m marks → (k : ℕ) → IsMarked marks k ↔ Reaches plan k m
marked_dependents plan importers m marks are reached k = (
  (λ mark. Reaches-turned plan importers m k are ((reached.reached k).0 mark)),
  (λ path. (reached.reached k).1 (Reaches-back plan importers k m are path)),
)
