use Rattle.std.proofs.Common.{◌≡◌, ℕ, Err, Some, ap, subst}
use Rattle.std.specs.List.{slice_get}
use Rattle.hm_syntax.specs.Trees.{no_declarations}
use Rattle.hm_syntax.specs.Lists.{declarations}
use Rattle.hm_names_keys.specs.Variables.{Variable}
use Rattle.hm_infer_dependencies.proofs.Distinct.{nodes_distinct, passed_on, repeated_nodes}
use Rattle.hm_infer_binding_groups.proofs.OneNode.{none_signed}
use Rattle.hm_infer_binding_groups.proofs.groups.distinct_nodes.Goals as goal

pub returns-clause-distinct : goal.returns-clause-distinct
returns-clause-distinct c = λ k. nodes_distinct k (declarations c.args.decls.now) (declarations c.args.decls.now)
    (subst (λ ns. (x : Variable) (i j : ℕ) → slice_get ns i ≡ Some (Some x) → slice_get ns j ≡ Some (Some x) → i ≡ j) (c.in_ok-list.ensures.nodes no_declarations (none_signed c.args.signed.now (c.is_empty.ensures.0 c.if-not-is_empty.false))) c.has_each_once.ensures)

pub returns-in_err-node_list-clause-repeated : goal.returns-in_err-node_list-clause-repeated
returns-in_err-node_list-clause-repeated c =
    passed_on c.from_residual-in_err-node_list.result c.in_err-node_list.field-0.0 c.from_residual-in_err-node_list.ensures.1
    (λ e k. repeated_nodes k (declarations c.args.decls.now) (declarations c.args.decls.now) (c.in_err-node_list.ensures.twice (ap Err e) (declarations c.args.decls.now) c.requires))

pub returns-in_err-list-clause-repeated : goal.returns-in_err-list-clause-repeated
returns-in_err-list-clause-repeated c =
    passed_on c.from_residual-in_err-list.result c.in_err-list.field-0.0 c.from_residual-in_err-list.ensures.1
    (λ e k. repeated_nodes k (declarations c.args.decls.now) (declarations c.args.decls.now) (c.in_err-list.ensures.twice (ap Err e) (declarations c.args.decls.now) c.requires))
