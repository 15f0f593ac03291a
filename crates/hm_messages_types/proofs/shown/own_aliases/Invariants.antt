use Rattle.std.proofs.Common.{All}
use Rattle.hm_messages_types.specs.Aliases.{alias_of}
use Rattle.hm_messages_types.specs.Shown.{IsNameIn}
use Rattle.hm_messages_types.proofs.shown.own_aliases.Given as goal

abbrev pub invariant-loop-index : goal.invariant-loop-index
invariant-loop-index l = All (λ a. IsNameIn l.question.name.now l.interface (alias_of a)) l.found.items
