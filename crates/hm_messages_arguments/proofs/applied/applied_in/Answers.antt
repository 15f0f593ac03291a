use Rattle.std.proofs.Common.{◌≡◌, ◌+◌, ◌++◌, ap, drop, flat_map, map, subst}
use Rattle.hm_names.proofs.Rows.{past, unrolled}
use Rattle.hm_messages_arguments.specs.Applied.{applied_of, list_applied, module_applied}
use Rattle.hm_messages_arguments.proofs.AppliedLists.{row_end, row_more}
use Rattle.hm_messages_arguments.proofs.applied.applied_in.Goals as goal

pub loop-module-preserved : goal.loop-module-preserved
loop-module-preserved c =
    let row = c.args.modules.now in
    let i = c.loop-module.module-index in
    let new = map applied_of c.add_list.new.out.items in
    let old = map applied_of c.loop-module.found.items in
    let step : new ≡ old ++ module_applied c.module-item.result = subst (λ l. new ≡ old ++ list_applied l) c.as_slice.ensures c.in_ok-add_list.ensures in
    row_more old new (module_applied c.module-item.result) (flat_map module_applied (drop (i + 1) row)) (flat_map module_applied (drop i row)) _
    (ap (flat_map module_applied) (unrolled row i c.module-item.result c.loop-module-test.true c.module-item.is)) c.loop-module.invariant step

pub returns : goal.returns
returns c = row_end (map applied_of c.loop-module.found.items) _ _ (ap (flat_map module_applied) (past c.args.modules.now c.loop-module.module-index c.loop-module-test.false)) c.loop-module.invariant
