use Rattle.std.proofs.Common.{◌≡◌, ◌∙◌, ap, map}
use Rattle.hm_types.specs.declared.Entity.{Entity}
use Rattle.hm_scope_tables.specs.declared.keys.EntityKey.{EntityKey}
use Rattle.hm_names.specs.Found.{arity_among}
use Rattle.hm_scope_tables.specs.KnownTables.{entity_at, known_arity}
use Rattle.hm_scope_entities.proofs.EntityTables.{arity_found}
use Rattle.hm_scope_entities.proofs.tables.arity_in.Goals as goal

pub returns-in-None : goal.returns-in-None
returns-in-None c =
    let key : EntityKey = record { «module» = c.module.result; name = c.name.result } in
    let is : entity_at key ≡ c.args.entity.now = λ i. record { «module» = c.module.ensures i; name = c.name.ensures i } in
    c.in-None.ensures.value ∙ (arity_found key c.args.table.now.entries ∙ ap (λ (e : Entity). arity_among (map known_arity c.args.table.now.entries) e) is)

pub returns-in-Some : goal.returns-in-Some
returns-in-Some c =
    let key : EntityKey = record { «module» = c.module.result; name = c.name.result } in
    let is : entity_at key ≡ c.args.entity.now = λ i. record { «module» = c.module.ensures i; name = c.name.ensures i } in
    c.in-Some.ensures.value ∙ (arity_found key c.args.table.now.entries ∙ ap (λ (e : Entity). arity_among (map known_arity c.args.table.now.entries) e) is)
