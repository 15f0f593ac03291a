use Rattle.std.proofs.Common.{[], ◌∷◌, refl, sym, ◌∙◌}
use Rattle.std.proofs.lemmas.Iterator.Adapters.{YieldsList-from_vec}
use Rattle.std.proofs.lemmas.Iterator.Consumers.{YieldsList-end}
use Rattle.std.proofs.lemmas.List.{map-id}
use Rattle.hm_infer_context.specs.Kept.{monomorphic_of}
use Rattle.hm_infer_context.proofs.Tables.{stack_pushed, bound_each}
use Rattle.hm_infer_context.proofs.Extended.{extended, kept_on}
use Rattle.hm_infer_context.proofs.environment.Environment.bind_variables.Goals as goal

pub loop-item-init : goal.loop-item-init
loop-item-init c = record { bound = refl; kept = ([], refl) }

pub loop-item-preserved : goal.loop-item-preserved
loop-item-preserved c = record {
  bound = c.in_ok-bind.ensures.bound ∙ sym (stack_pushed monomorphic_of c.loop-item.yielded _ c.in-Some.item c.args.self.now c.loop-item.self refl (sym c.loop-item.invariant.bound));
  kept = extended c.args.self.now c.loop-item.self c.bind.new.self c.loop-item.invariant.kept (_ ∷ [], c.in_ok-bind.ensures.bound);
}

pub returns-in_err-bind-clause-kept : goal.returns-in_err-bind-clause-kept
returns-in_err-bind-clause-kept c = kept_on c.args.self.now c.loop-item.self c.bind.new.self c.loop-item.invariant.kept c.in_err-bind.ensures.same

pub returns-clause-bound : goal.returns-clause-bound
returns-clause-bound c =
    let given = c.into_iter-item-iterator.ensures.into_iter_gives in
    let all = YieldsList-end (YieldsList-from_vec {s = c.into_iter-item-iterator.result} c.into_items-item-items.result.items given.0 (given.1 ∙ c.into_items-item-items.result.ok.0)) c.loop-item.yielded c.loop-item.item-iterator c.loop-item.yielded_by c.next.result c.next.new.self c.in-None.is c.next.ensures.steps in
    bound_each c.into_items-item-items.result.items c.loop-item.yielded c.args.variables c.args.self.now c.loop-item.self (sym (map-id c.loop-item.yielded) ∙ all.0) c.into_items-item-items.ensures c.loop-item.invariant.bound
