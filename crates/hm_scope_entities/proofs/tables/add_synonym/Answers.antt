use Rattle.std.proofs.Common.{map, ◌∙◌, refl}
use Rattle.hm_scope_tables.specs.KnownTables.{known_imported, synonym_description}
use Rattle.hm_scope_entities.proofs.FirstDescriptions.{synonym_known, synonym_new}
use Rattle.hm_scope_entities.proofs.tables.add_synonym.Goals as goal

pub returns-in-Some : goal.returns-in-Some
returns-in-Some c = λ before known.
    synonym_known before c.args.types.now.entries (map known_imported c.args.synonyms.now.entries) c.of-key.result (synonym_description c.args.entry.now) c.in-Some.field-0.now c.in-Some.ensures.value (c.of-key.ensures ∙ c.of.ensures) known

pub returns-in_ok-insert-in-None-2 : goal.returns-in_ok-insert-in-None-2
returns-in_ok-insert-in-None-2 c = λ before known.
    synonym_new before c.args.types.now c.insert.new.self.entries c.args.synonyms.now.entries c.insert-in-None.new.self.entries c.of-key.result (synonym_description c.args.entry.now) _ c.parameters.result
    c.in-None.ensures.value c.in_ok-insert-in-None.ensures.entries c.in_ok-insert-in-None-2.ensures.entries (c.of-key.ensures ∙ c.of.ensures) refl c.parameters.ensures known
