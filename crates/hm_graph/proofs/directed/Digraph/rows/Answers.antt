use Rattle.hm_graph.proofs.directed.Digraph.rows.Goals as goal

pub returns-clause-closed : goal.returns-clause-closed
returns-clause-closed c = rw c.deref.ensures.value c.self.invariant
