-- Definitions and places, as the code has them.
use Rattle.std.specs.Prelude.{List, ◌∷◌, map}
use Rattle.hm_messages_changes.specs.Layouts.{renaming_of}
use Rattle.hm_messages_copies.specs.Changes.{Definition, Place}
use Rattle.hm_messages_copies.specs.declared.data.Copied.{Copied}
use Rattle.hm_messages_copies.specs.declared.data.Inside.{Inside}
use Rattle.hm_messages_copies.specs.declared.data.Target.{Target}

abbrev pub definition_of : Copied → Definition
definition_of d = record { whole = d.whole; name = d.name.now; value = d.value.now; local = renaming_of d.local }

abbrev pub definitions_of : List Copied → List Definition
definitions_of ds = map definition_of ds

abbrev pub place_of : Target → Place
place_of t = record { exported = t.exported; names = t.names.now; at = t.at }
