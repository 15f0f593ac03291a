use Rattle.std.proofs.Common.{◌≡◌, ℕ, Err, Some, ap, subst, bytes_eq}
use Rattle.std.specs.List.{list_any, slice_get}
use Rattle.hm_syntax.specs.Trees.{no_declarations}
use Rattle.hm_syntax.specs.Lists.{declarations}
use Rattle.hm_names_keys.specs.Variables.{Variable}
use Rattle.hm_infer_dependencies.specs.Nodes.{AreSigned}
use Rattle.hm_infer_dependencies.proofs.Distinct.{nodes_distinct, repeated_not_distinct, passed_on}
use Rattle.hm_infer_binding_groups.proofs.groups.check_distinct.Goals as goal

pub returns-clause-distinct : goal.returns-clause-distinct
returns-clause-distinct c =
    let none : AreSigned no_declarations c.new-unsigned.result = λ x. ap (λ ks. list_any (λ k. bytes_eq x k.now) ks) c.new-unsigned.ensures.empty in
    λ k. nodes_distinct k (declarations c.args.decls.now) (declarations c.args.decls.now)
    (subst (λ ns. (x : Variable) (i j : ℕ) → slice_get ns i ≡ Some (Some x) → slice_get ns j ≡ Some (Some x) → i ≡ j) (c.in_ok-list.ensures.nodes no_declarations none) c.has_each_once.ensures)

pub returns-in_err-list-clause-repeated : goal.returns-in_err-list-clause-repeated
returns-in_err-list-clause-repeated c =
    let none : AreSigned no_declarations c.new-unsigned.result = λ x. ap (λ ks. list_any (λ k. bytes_eq x k.now) ks) c.new-unsigned.ensures.empty in
    passed_on c.from_residual.result c.in_err-list.field-0.0 c.from_residual.ensures.1
    (λ e k. repeated_not_distinct k (declarations c.args.decls.now) (declarations c.args.decls.now) (c.in_err-list.ensures.twice (ap Err e) no_declarations none))
