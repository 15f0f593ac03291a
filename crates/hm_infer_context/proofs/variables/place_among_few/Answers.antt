use Rattle.std.proofs.Common.{◌<◌, length, refl, sym, ◌∙◌, arith}
use Rattle.std.proofs.lemmas.Option.{slice_get_read}
use Rattle.hm_names_keys.specs.Keys.{variable_of_key}
use Rattle.hm_names_keys.proofs.SameVariables.{key_eq, same_variable-is}
use Rattle.hm_infer_context.proofs.Placed.{none_more, none_of_few}
use Rattle.hm_infer_context.proofs.variables.place_among_few.Goals as goal

pub returns-then-eq : goal.returns-then-eq
returns-then-eq c =
    let inside : c.items.place < length c.args.items.now = omega (arith, c.items-test.true, c.min-count.ensures) in
    let d = c.index-items-place.result in
    (d, (slice_get_read c.args.items.now (length c.args.items.now) c.items.place d refl inside c.index-items-place.is, same_variable-is (variable_of_key d.name) (variable_of_key c.args.key.now) (sym (key_eq d.name c.args.key.now) ∙ (sym c.eq.ensures ∙ c.if-eq.true))))

pub items-preserved : goal.items-preserved
items-preserved c =
    let inside : c.items.place < length c.args.items.now = omega (arith, c.items-test.true, c.min-count.ensures) in
    let d = c.index-items-place.result in
    none_more c.args.items.now c.items.place d (variable_of_key c.args.key.now) inside c.index-items-place.is c.items.invariant (sym (key_eq d.name c.args.key.now) ∙ (sym c.eq.ensures ∙ c.if-eq.false))

pub returns : goal.returns
returns c = none_of_few c.args.items.now c.items.place c.min-count.result (variable_of_key c.args.key.now) c.min-count.ensures c.items.auto.place-end c.items-test.false c.items.invariant
