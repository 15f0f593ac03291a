use Rattle.std.proofs.Common.{Err, ap, refl}
use Rattle.hm_infer_dependencies.proofs.Distinct.{passed_on, repeated_list}
use Rattle.hm_infer_dependencies.proofs.NodeLists.{IsStep, is_step, nodes_step, owner_step, owners_step, old_nodes}
use Rattle.hm_infer_dependencies.proofs.nodes.node_list.Goals as goal

pub loop-behind-preserved : goal.loop-behind-preserved
loop-behind-preserved c =
    let s : IsStep c.args.decls.now c.loop-behind.behind c.index-decls-place.result _ = is_step c.args.decls.now c.loop-behind.behind c.index-decls-place.result _ c.loop-behind-test.true c.index-decls-place.is refl in
    record {
      nodes = λ all g. nodes_step all c.args.decls.now c.loop-behind.behind c.index-decls-place.result _ _ _ s (c.in_ok-owner.ensures.nodes all g) (c.loop-behind.invariant.nodes all g);
      last = λ all g. owner_step all c.args.decls.now c.loop-behind.behind c.index-decls-place.result _ _ _ s (c.in_ok-owner.ensures.owner all g (old_nodes all c.args.decls.now c.loop-behind.behind c.index-decls-place.result _ _ s (c.loop-behind.invariant.nodes all g))) (c.loop-behind.invariant.last all g);
      each = λ all g. owners_step all c.args.decls.now c.loop-behind.behind c.index-decls-place.result _ c.in_ok-owner.owner c.loop-behind.owners.items _ s c.in_ok-push.ensures.items (c.loop-behind.invariant.each all g)
          (owner_step all c.args.decls.now c.loop-behind.behind c.index-decls-place.result _ _ _ s (c.in_ok-owner.ensures.owner all g (old_nodes all c.args.decls.now c.loop-behind.behind c.index-decls-place.result _ _ s (c.loop-behind.invariant.nodes all g))) (c.loop-behind.invariant.last all g));
    }

pub returns-in_err-owner-clause-twice : goal.returns-in_err-owner-clause-twice
returns-in_err-owner-clause-twice c = passed_on c.from_residual-in_err-owner.result c.in_err-owner.field-0.0 c.from_residual-in_err-owner.ensures.1 (λ e all g.
    let s : IsStep c.args.decls.now c.loop-behind.behind c.index-decls-place.result _ = is_step c.args.decls.now c.loop-behind.behind c.index-decls-place.result _ c.loop-behind-test.true c.index-decls-place.is refl in
    repeated_list all c.args.decls.now c.loop-behind.behind c.index-decls-place.result _ _ s (c.loop-behind.invariant.nodes all g) (c.in_err-owner.ensures.twice (ap Err e) all g))
