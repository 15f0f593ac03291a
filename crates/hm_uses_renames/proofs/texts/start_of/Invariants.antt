use Rattle.std.proofs.Common.{◌≡◌}
use Rattle.hm_uses_renames.specs.Cursors.{IsCursor}
use Rattle.hm_uses_renames.proofs.texts.start_of.Given as goal

abbrev pub invariant-bytes : goal.invariant-bytes
invariant-bytes l = (l.here.at ≡ l.at) × IsCursor l.text l.here
