use Rattle.std.proofs.Common.{map}
use Rattle.hm_scope_tables.specs.KnownTables.{known_imported}
use Rattle.hm_scope_entities.proofs.FirstDescriptions.{own_put}
use Rattle.hm_scope_entities.proofs.tables.Tables.add_synonym.Goals as goal

pub returns-clause-synonyms : goal.returns-clause-synonyms
returns-clause-synonyms c = λ e.
    rw (← c.self.view_is) (own_put c.self.inside.own.entries c.insert.new.self.entries (map known_imported c.self.inside.imported.entries) (record { «module» = c.args.home; name = c.args.name }) c.args.synonym e c.in_ok-insert.ensures.entries)
