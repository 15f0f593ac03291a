use Rattle.hm_uses_symbols.proofs.Opened.{opened_size, opened_variables}
use Rattle.hm_uses_symbols.proofs.patterns.add_variables.Goals as goal

pub patterns-smaller : goal.patterns-smaller
patterns-smaller c = opened_size c.patterns.pending.items c.pop.new.self.items c.open.new.pending.items c.pop.result c.in-Some.next c.pop.ensures.items c.in-Some.is c.in_ok-open.ensures.size

pub patterns-preserved : goal.patterns-preserved
patterns-preserved c =
    opened_variables c.patterns.pending.items c.pop.new.self.items c.open.new.pending.items c.pop.result c.in-Some.next c.patterns.names c.open.new.names _ c.pop.ensures.items c.in-Some.is c.in_ok-open.ensures.variables c.patterns.invariant
