use Rattle.std.proofs.Common.{take}
use Rattle.hm_scope.specs.Synonyms.{AreOwnSynonyms}
use Rattle.hm_scope.proofs.declared_synonyms.own_synonyms.Given as goal

abbrev pub invariant-decls : goal.invariant-decls
invariant-decls l = AreOwnSynonyms (take l.decl-index l.decls) l.synonyms
