use Rattle.std.proofs.Common.{◌≡◌, ◌≤◌, take}
use Rattle.hm_messages_excerpts.specs.Columns.{characters}
use Rattle.hm_build_places.proofs.columns.bytes_before.Given as goal

abbrev pub invariant-bytes : goal.invariant-bytes
invariant-bytes l = record { seen : l.seen ≡ characters (take l.at l.text); few : l.seen ≤ l.count }
