use Rattle.std.proofs.Common.{◌∙◌, sym}
use Rattle.hm_scope_tables.specs.declared.keys.EntityKey.{EntityKey}
use Rattle.hm_names.specs.Described.{ConstructorDescription}
use Rattle.hm_scope_entities.proofs.OwnerTables.{noted_before, noted_new}
use Rattle.hm_scope_entities.proofs.constructors.note_owner.Goals as goal

pub returns-then-contains_key : goal.returns-then-contains_key
returns-then-contains_key c = λ ds n table.
    let key : EntityKey = record { «module» = c.module.result; name = c.name.result } in
    let d : ConstructorDescription = record { entity = c.args.constructor.now; owner = c.args.owner; arguments = n } in
    noted_before ds d c.args.owners.now key (λ i. record { «module» = c.module.ensures i; name = c.name.ensures i }) (sym c.contains_key.ensures ∙ c.if-contains_key.true) table

pub returns : goal.returns
returns c = λ ds n table.
    let key : EntityKey = record { «module» = c.module.result; name = c.name.result } in
    let d : ConstructorDescription = record { entity = c.args.constructor.now; owner = c.args.owner; arguments = n } in
    noted_new ds d c.args.owners.now c.insert.new.self key (λ i. record { «module» = c.module.ensures i; name = c.name.ensures i }) (sym c.contains_key.ensures ∙ c.if-contains_key.false) table c.in_ok-insert.ensures.updates.0
