use Rattle.std.proofs.Common.{List, option_map, subst}
use Rattle.std.proofs.lemmas.List.{take_all}
use Rattle.hm_names.specs.Bindings.{Pair}
use Rattle.hm_scope_exports.specs.ExportItems.{IsLeastOf}
use Rattle.hm_scope_exports.proofs.ExportClashes.{least_none, least_step}
use Rattle.hm_scope_exports.proofs.exports.least_clash.Goals as goal

pub loop-pair-init : goal.loop-pair-init
loop-pair-init c = λ all table. least_none all c.args.given.now

pub loop-pair-preserved : goal.loop-pair-preserved
loop-pair-preserved c = λ all table. least_step all c.args.given.now c.loop-pair.pair-index c.pair-item.result (option_map (λ x. x.now) c.lesser-least.result) c.loop-pair-test.true c.pair-item.is (c.lesser-least.ensures all _ table (c.loop-pair.invariant all table))

pub returns : goal.returns
returns c = λ all table. subst (λ (l : List Pair). IsLeastOf all l (option_map (λ x. x.now) c.loop-pair.least)) (take_all c.loop-pair.pair-index c.args.given.now c.loop-pair-test.false) (c.loop-pair.invariant all table)
