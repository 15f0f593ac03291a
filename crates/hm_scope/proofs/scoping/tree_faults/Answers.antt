use Rattle.std.proofs.Common.{List, subst}
use Rattle.hm_syntax.specs.Trees.{Declaration}
use Rattle.hm_scope.specs.Synonyms.{AreOwnSynonyms}
use Rattle.hm_scope.proofs.scoping.tree_faults.Goals as goal

pub faults_over-requires-clause-synonyms : goal.faults_over-requires-clause-synonyms
faults_over-requires-clause-synonyms c = subst (λ (ds : List Declaration). AreOwnSynonyms ds c.in_ok-own.own) c.as_slice.ensures c.in_ok-own.ensures
