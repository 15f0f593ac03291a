use Rattle.std.proofs.Common.{None, sym, ◌∙◌, ap, subst}
use Rattle.hm_infer_dependencies.specs.Numberings.{nodes_of, IsNumbering}
use Rattle.hm_infer_dependencies.proofs.Numberings.{AreQualified, IsNumbering-pattern, nodes_of-push, pattern_qualified}
use Rattle.hm_infer_dependencies.proofs.numbers.Numbers.add_pattern.Goals as goal

pub invariant_of-self-2 : goal.invariant_of-self-2
invariant_of-self-2 c =
    let is = ap nodes_of c.in_ok-push.ensures.items ∙ nodes_of-push c.self.inside.nodes.items None in
    record {
      numbered = subst (λ ns. IsNumbering ns c.self.inside.table) (sym is) (IsNumbering-pattern (nodes_of c.self.inside.nodes.items) c.self.inside.table c.self.invariant.numbered);
      qualified = subst (λ ns. AreQualified ns c.self.inside.qualifiers) (sym is) (pattern_qualified (nodes_of c.self.inside.nodes.items) c.self.inside.qualifiers c.self.invariant.qualified);
    }
