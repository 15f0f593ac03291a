use Rattle.std.proofs.Common.{◌≡◌, ℕ, Some, length, sym, ap, ◌∙◌, subst}
use Rattle.std.specs.List.{slice_get}
use Rattle.hm_graph_components.specs.Digraph.{lists}
use Rattle.hm_syntax.specs.Lists.{declarations}
use Rattle.hm_names.specs.Syntax.{bindings_of}
use Rattle.hm_typing.specs.Orders.{AreNumberedGroups}
use Rattle.hm_names_keys.specs.Variables.{Variable}
use Rattle.hm_infer_dependencies.specs.Groups.{node_name}
use Rattle.hm_infer_dependencies.proofs.Related.{are_numbered}
use Rattle.hm_infer_binding_groups.proofs.OneNode.{one_numbered}
use Rattle.hm_infer_binding_groups.proofs.groups.groups_of.Goals as goal

pub returns-then-len-eq1 : goal.returns-then-len-eq1
returns-then-len-eq1 c = λ k.
    let ds = declarations c.args.decls.now in
    let groups = lists c.in_ok-one_group.field-0.items in
    subst (λ ns. AreNumberedGroups (bindings_of k ds ds) (node_name k ds) (length ns) groups) (sym c.requires.nodes)
    (one_numbered k ds (sym (ap length c.requires.nodes) ∙ (sym c.len.ensures ∙ c.if-len-eq1.true)) groups c.in_ok-one_group.ensures)

pub returns : goal.returns
returns c = λ k.
    let ds = declarations c.args.decls.now in
    let groups = lists c.in_ok-graph_groups.field-0.items in
    subst (λ ns. AreNumberedGroups (bindings_of k ds ds) (node_name k ds) (length ns) groups) (sym c.requires.nodes)
    (are_numbered k ds
    (subst (λ ns. (x : Variable) (i j : ℕ) → slice_get ns i ≡ Some (Some x) → slice_get ns j ≡ Some (Some x) → i ≡ j) c.requires.nodes c.has_each_once.ensures)
    (c.requires.distinct k) c.in_ok-graph_groups.ensures.0 c.in_ok-graph_groups.ensures.1 groups c.in_ok-graph_groups.ensures.2)
