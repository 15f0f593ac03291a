use Rattle.std.proofs.Common.{All, take}
use Rattle.hm_messages_details.specs.Candidates.{IsOther}
use Rattle.hm_messages_details.proofs.candidates.are_others.Given as goal

abbrev pub invariant-imports : goal.invariant-imports
invariant-imports l = All IsOther (take l.import-index l.imports)
