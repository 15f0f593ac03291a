-- The name that a message says in place of the fault's.
use Rattle.std.specs.Prelude.{ℕ, List, Option, None, Some}
use Rattle.hm_names.specs.Faults.Phases.{written_in}
use Rattle.hm_messages_details.specs.Details.{Known, nothing, near, near_local, near_binding, of_report, either, first, arguments, lengths, not_from, elsewhere, by_pattern}

-- the near name, with its qualifier
abbrev pub new_name : Known → Option (List ℕ)
new_name nothing = None
new_name (near q x) = Some (written_in q x)
new_name (near_local x) = Some x
new_name of_report = None
new_name (either c d) = None
new_name (first p) = None
new_name (arguments here takes) = None
new_name (lengths here others) = None
new_name (not_from x t y) = y
new_name (near_binding x) = Some x
new_name (elsewhere s) = None
new_name by_pattern = None
