use Rattle.std.proofs.Common.{take, map}
use Rattle.hm_names.specs.DeclaredSynonyms.{AreAmong}
use Rattle.hm_scope.proofs.finished_synonyms.is_closed.Given as goal

abbrev pub invariant-used : goal.invariant-used
invariant-used l = AreAmong l.variables (map (λ n. n.now) (take l.name-index l.name-items))
