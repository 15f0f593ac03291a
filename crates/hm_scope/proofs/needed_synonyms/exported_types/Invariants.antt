use Rattle.std.proofs.Common.{ℕ, List, take, ◌↔◌, Contains}
use Rattle.hm_scope.specs.NeededSynonyms.{Exports}
use Rattle.hm_scope.proofs.needed_synonyms.exported_types.Given as goal

abbrev pub invariant-given : goal.invariant-given
invariant-given l = (x : List ℕ) → Contains l.names x ↔ Exports l.home (take l.binding-index l.given) x
