use Rattle.std.proofs.Common.{take}
use Rattle.hm_scope.proofs.SynonymReferences.{more_of}
use Rattle.hm_syntax.specs.Trees.{Declaration}
use Rattle.std.proofs.Common.{List}
use Rattle.hm_scope.specs.Synonyms.{AreOwnSynonyms}
use Rattle.hm_scope.proofs.declared_synonyms.own_synonyms.Goals as goal

pub decls-preserved : goal.decls-preserved
decls-preserved c = more_of (λ (ds : List Declaration). AreOwnSynonyms ds c.add_declared.new.synonyms) c.args.decls.now c.decls.decl-index c.decl-item.result c.decls-test.true c.decl-item.is
    (c.in_ok-add_declared.ensures (take c.decls.decl-index c.args.decls.now) c.decls.invariant)
