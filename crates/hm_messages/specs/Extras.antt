-- Extras as the code has them.
use Rattle.std.specs.Prelude.{map}
use Rattle.hm_messages_json.specs.Edits.{changed_of}
use Rattle.hm_messages.specs.Messages.{Extras}
use Rattle.hm_messages.specs.declared.objects.Suggestion.{Suggestion}

abbrev pub extras_of : Suggestion → Extras
extras_of s = record { changes = map changed_of s.changes.now; part = s.part; second = s.second }
