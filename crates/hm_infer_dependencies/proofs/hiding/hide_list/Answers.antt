use Rattle.std.proofs.Common.{◌≡◌, ◌+◌, ◌∷◌, drop, ap, subst}
use Rattle.hm_syntax.specs.Lists.{declarations}
use Rattle.hm_infer_dependencies.specs.References.{binding_variables, list_variables}
use Rattle.hm_infer_dependencies.proofs.Rows.{unrolled, past, take_rest}
use Rattle.hm_infer_dependencies.specs.Walks.{Hides}
use Rattle.hm_infer_dependencies.proofs.Walking.{StillHides-step, StillHides-end}
use Rattle.hm_infer_dependencies.proofs.hiding.hide_list.Goals as goal

pub loop-place-preserved : goal.loop-place-preserved
loop-place-preserved c =
    let e : drop c.loop-place.place c.args.decls.now ≡ c.index-decls-place.result ∷ drop (c.loop-place.place + 1) c.args.decls.now = unrolled c.args.decls.now c.loop-place.place c.index-decls-place.result c.loop-place-test.true c.index-decls-place.is in
    StillHides-step c.args.numbers.now _ (binding_variables c.index-decls-place.result (declarations (drop (c.loop-place.place + 1) c.args.decls.now))) (list_variables (declarations (drop (c.loop-place.place + 1) c.args.decls.now))) _ _ c.loop-place.shown _ _ c.loop-place.noted.items _
    (ap (λ ds. list_variables (declarations ds)) e)
    (subst (λ rest. Hides c.args.numbers.now (binding_variables c.index-decls-place.result (declarations rest)) c.loop-place.shown c.hide_binding.new.shown c.loop-place.noted.items c.hide_binding.new.noted.items) (take_rest c.args.decls.now (c.loop-place.place + 1)) c.in_ok-hide_binding.ensures) c.loop-place.invariant

pub returns : goal.returns
returns c =
    StillHides-end c.args.numbers.now _ _ _ _ _ _ (ap (λ ds. list_variables (declarations ds)) (past _ _ c.loop-place-test.false)) c.loop-place.invariant
