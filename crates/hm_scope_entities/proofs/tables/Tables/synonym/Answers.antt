use Rattle.std.proofs.Common.{◌∙◌, ◌++◌, ap, sym, map, option_map}
use Rattle.hm_types.specs.declared.Entity.{Entity}
use Rattle.hm_scope_tables.specs.declared.keys.EntityKey.{EntityKey}
use Rattle.hm_names.specs.Found.{synonym_among}
use Rattle.hm_scope_tables.specs.KnownTables.{entity_at, known_own, known_imported}
use Rattle.hm_scope_entities.proofs.EntityTables.{own_found, imported_found, own_first, then_imported}
use Rattle.hm_scope_entities.proofs.tables.Tables.synonym.Goals as goal

pub returns-in-Some : goal.returns-in-Some
returns-in-Some c =
    let key : EntityKey = c.key_of-key.result in
    let own = c.self.inside.own.entries in
    let imported = c.self.inside.imported.entries in
    let found = own_first (map known_own own) (map known_imported imported) (entity_at key) c.in-Some.synonym.now (sym (own_found key own) ∙ sym c.in-Some.ensures.value) in
    rw (← c.self.view_is) (sym found ∙ ap (λ (e : Entity). synonym_among (map known_own own ++ map known_imported imported) e) c.key_of-key.ensures)

pub returns-in-Some-get : goal.returns-in-Some-get
returns-in-Some-get c =
    let key : EntityKey = c.key_of-key.result in
    let own = c.self.inside.own.entries in
    let imported = c.self.inside.imported.entries in
    let behind = then_imported (map known_own own) (map known_imported imported) (entity_at key) (sym (own_found key own) ∙ sym c.in-None.ensures.value) in
    rw (← c.self.view_is) (ap (option_map (λ b. b.now)) c.in-Some-get.ensures.value ∙ (imported_found key imported ∙ (sym behind ∙ ap (λ (e : Entity). synonym_among (map known_own own ++ map known_imported imported) e) c.key_of-key.ensures)))

pub returns-in-None-get : goal.returns-in-None-get
returns-in-None-get c =
    let key : EntityKey = c.key_of-key.result in
    let own = c.self.inside.own.entries in
    let imported = c.self.inside.imported.entries in
    let behind = then_imported (map known_own own) (map known_imported imported) (entity_at key) (sym (own_found key own) ∙ sym c.in-None.ensures.value) in
    rw (← c.self.view_is) (ap (option_map (λ b. b.now)) c.in-None-get.ensures.value ∙ (imported_found key imported ∙ (sym behind ∙ ap (λ (e : Entity). synonym_among (map known_own own ++ map known_imported imported) e) c.key_of-key.ensures)))
