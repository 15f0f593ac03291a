use Rattle.std.proofs.Common.{All, take}
use Rattle.hm_messages_details.specs.Candidates.{IsInLine}
use Rattle.hm_messages_details.proofs.candidates.is_only_line.Given as goal

abbrev pub invariant-imports : goal.invariant-imports
invariant-imports l = All (IsInLine l.qualifier l.line) (take l.import-index l.imports)
