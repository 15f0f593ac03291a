use Rattle.std.proofs.Common.{refl, [], ◌≡◌, ◌-◌, Some, sym, ap, ◌∙◌, length, ◌<◌, cond, arith, vec_len}
use Rattle.std.specs.Map.{lookup}
use Rattle.hm_names_keys.specs.Keys.{number_of, same_variable, variable_of_key}
use Rattle.hm_names_keys.proofs.Pushed.{take_all_but}
use Rattle.hm_names_keys.proofs.SameVariables.{updated}
use Rattle.hm_infer_context.specs.Kept.{variable_of}
use Rattle.hm_infer_context.specs.Places.{few}
use Rattle.hm_infer_context.proofs.Placed.{few_kept, one_noted, noted_same}
use Rattle.hm_infer_context.proofs.Tables.{stack_pushed}
use Rattle.hm_infer_context.proofs.variables.Variables.add.Goals as goal

pub invariant_of-self-in-Ok : goal.invariant_of-self-in-Ok
invariant_of-self-in-Ok c =
    let count : c.len-place.result ≡ length c.self.inside.items.items = omega (arith, c.len-place.ensures, c.self.inside.items.ok.0) in
    one_noted c.self.inside.items.items c.push.new.self.items _ c.self.inside.places c.insert.new.self c.self.invariant c.in_ok-push.ensures.items (omega (arith, c.if-place-lt-FEW.false, count))
    (λ x. updated c.self.inside.places c.insert.new.self c.args.name (variable_of_key c.args.name) (Some c.len-place.result) refl c.in-Ok.ensures.updates.0 x
    ∙ ap (λ n. cond (same_variable (variable_of_key c.args.name) x) (Some n) (number_of c.self.inside.places x)) count)

pub invariant_of-self-in-Err : goal.invariant_of-self-in-Err
invariant_of-self-in-Err c =
    let long : vec_len c.push.new.self - 1 ≡ length c.self.inside.items.items = omega (arith, c.in_ok-push.ensures.len, c.self.inside.items.ok.0) in
    noted_same c.self.inside.items.items c.pop.new.self.items c.self.inside.places c.insert.new.self c.self.invariant
    (sym (c.pop.ensures.rest ∙ take_all_but c.self.inside.items.items c.push.new.self.items (vec_len c.push.new.self - 1) _ long c.in_ok-push.ensures.items))
    (λ x. ap (lookup (λ k. same_variable x (variable_of_key k))) c.in-Err.ensures.err)

pub invariant_of-self-then-place-lt-FEW : goal.invariant_of-self-then-place-lt-FEW
invariant_of-self-then-place-lt-FEW c =
    let short : length c.self.inside.items.items < few = omega (arith, c.if-place-lt-FEW.true, c.len-place.ensures, c.self.inside.items.ok.0) in
    few_kept c.self.inside.items.items c.push.new.self.items _ c.self.inside.places c.self.invariant c.in_ok-push.ensures.items short

pub returns-then-place-lt-FEW : goal.returns-then-place-lt-FEW
returns-then-place-lt-FEW c = stack_pushed variable_of c.self.inside.items.items c.push.new.self.items _ [] c.args.self.now c.in_ok-push.ensures.items c.self.view_is

pub returns-in-Ok : goal.returns-in-Ok
returns-in-Ok c = stack_pushed variable_of c.self.inside.items.items c.push.new.self.items _ [] c.args.self.now c.in_ok-push.ensures.items c.self.view_is
