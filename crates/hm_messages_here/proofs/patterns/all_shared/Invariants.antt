use Rattle.std.proofs.Common.{◌≡◌, ◌++◌, drop, string_bytes}
use Rattle.hm_messages_here.proofs.Sharing.{shares}
use Rattle.hm_messages_here.proofs.patterns.all_shared.Given as goal

abbrev pub invariant-names : goal.invariant-names
invariant-names l = string_bytes l.all ++ shares l.«module» (drop l.name-index l.names) ≡ shares l.«module» l.names
