use Rattle.std.proofs.Common.{Some, refl, ◌∙◌}
use Rattle.hm_names_keys.specs.Keys.{variable_of_key}
use Rattle.hm_names_keys.proofs.SameVariables.{look_up, updated}
use Rattle.hm_infer_context.specs.declared.environment.Binding.{Binding}
use Rattle.hm_infer_context.proofs.PlacedFirst.{next_placed, set_entries, set_length}
use Rattle.hm_infer_context.proofs.environment.place_next.Goals as goal

pub returns-clause-entries : goal.returns-clause-entries
returns-clause-entries c =
    let d = c.index_mut-item.result.now in
    let b : Binding = record { name = d.name; quantified = d.quantified; body = d.body; hidden = c.in-Ok.hidden } in
    set_entries c.args.items.now.items _ c.args.place b d refl c.requires.within c.index_mut-item.ensures.value refl

pub returns-clause-placed : goal.returns-clause-placed
returns-clause-placed c = λ placed.
    let d = c.index_mut-item.result.now in
    let b : Binding = record { name = d.name; quantified = d.quantified; body = d.body; hidden = c.in-Ok.hidden } in
    next_placed c.args.items.now.items _ c.args.place b c.args.table.now c.insert.new.self placed refl (set_length c.args.items.now.items c.args.place b) c.requires.within
    (c.in-Ok.ensures.old ∙ look_up c.args.table.now d.name (variable_of_key d.name) refl)
    (λ x. updated c.args.table.now c.insert.new.self d.name (variable_of_key d.name) (Some c.args.place) refl c.in-Ok.ensures.updates.0 x)
