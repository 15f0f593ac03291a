-- The surroundings of a definition, as the code has them.
use Rattle.hm_messages_changes.specs.Probes.{Renaming, Surroundings}
use Rattle.hm_messages_changes.specs.declared.data.Layout.{Layout}
use Rattle.hm_messages_changes.specs.declared.data.Local.{Local}

abbrev pub renaming_of : Local → Renaming
renaming_of l = record { name = l.name.now; before = l.before.now; after = l.after.now }

abbrev pub surroundings_of : Layout → Surroundings
surroundings_of l = record { whole = l.whole; local = renaming_of l.local; exported = l.exported; names = l.names.now; before = l.before.now; after = l.after.now }
