use Rattle.std.proofs.Common.{subst}
use Rattle.hm_unify.specs.WellFormed.{IsWellFormed}
use Rattle.hm_types.specs.Shape.{type_of}
use Rattle.hm_unify.specs.Levels.{is_outer}
use Rattle.hm_infer_generalisation.proofs.Quantifying.{generalised, closing_well_formed}
use Rattle.hm_infer_generalisation.proofs.Closing.{closes}
use Rattle.hm_infer_generalisation.proofs.generalising.generalise.Goals as goal

pub returns : goal.returns
returns c =
    let kept = is_outer c.args.solver.now.equations c.args.older in
    let closed = closes kept c.none_collected-slots.result c.collect.new.seen (type_of c.in_ok-value.value) _ (type_of c.in_ok-body.body) _ _ _ c.in_ok-collect.ensures c.in_ok-value.ensures.value c.len.ensures c.len-2.ensures c.in_ok-count.ensures c.in_ok-body.ensures in
    record { scheme = generalised c.args.solver.now.equations kept (type_of c.args.t.now) (type_of c.in_ok-body.body) _ closed; given = closing_well_formed kept _ (type_of c.in_ok-body.body) _ c.args.solver.now.given closed (subst (IsWellFormed c.args.solver.now.given) c.in_ok-value.ensures.value c.in_ok-value.ensures.well_formed); closed = closed }
