use Rattle.std.proofs.Common.{◌-◌, length, Some, refl, arith}
use Rattle.std.proofs.lemmas.Option.{slice_get_read}
use Rattle.hm_names_keys.specs.Keys.{variable_of_key}
use Rattle.hm_names_keys.specs.declared.lent_names.LentName.{LentName}
use Rattle.hm_names_keys.proofs.SameVariables.{updated}
use Rattle.hm_infer_context.proofs.ConstructorPlaces.{first_next}
use Rattle.hm_infer_context.proofs.constructors.places_of.Goals as goal

pub entries-preserved : goal.entries-preserved
entries-preserved c =
    let all = c.args.entries.now in
    let place = length all - 1 - c.entries.behind in
    let key : LentName = record { qualifier = Some c.index-entries-place.result.«module»; text = c.index-entries-place.result.name } in
    first_next all c.entries.behind c.index-entries-place.result c.entries.places c.insert.new.self c.entries-test.true c.index-entries-place.is
    (slice_get_read all (length all) place c.index-entries-place.result refl (omega (arith, c.entries-test.true)) c.index-entries-place.is)
    c.entries.invariant
    (λ x. updated c.entries.places c.insert.new.self key (variable_of_key key) (Some place) refl c.in_ok-insert.ensures.updates.0 x)
