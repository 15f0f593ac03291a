use Rattle.std.proofs.Common.{◌≡◌, ◌++◌, map, take}
use Rattle.hm_messages_changes.proofs.blanks.names_with.Given as goal

abbrev pub invariant-loop-definition : goal.invariant-loop-definition
invariant-loop-definition l = map (λ n. n.now) l.all.items ≡ map (λ n. n.now) l.names ++ map (λ d. d.name.now) (take l.definition-index l.definitions)
