use Rattle.std.proofs.Common.{◌≡◌, map, take}
use Rattle.std.specs.List.{filter}
use Rattle.hm_uses_places.specs.Places.{is_on}
use Rattle.hm_uses_places.proofs.on_names.uses_at.Given as goal

abbrev pub invariant-uses : goal.invariant-uses
invariant-uses l = map (λ u. u.now) l.found.items ≡ filter (λ u. is_on (record { line = l.line; column = l.column }) u.mention.name) (take l.one-index l.uses)
