use Rattle.hm_scope.proofs.SynonymReferences.{no_reference, one_reference}
use Rattle.hm_scope.proofs.declared_synonyms.add_reference.Goals as goal

pub returns-in-None-clause-edges : goal.returns-in-None-clause-edges
returns-in-None-clause-edges c = λ m fs scope home once. no_reference c.args.scoped.now.names.now c.args.graph.now _ (λ i y has r. c.in-None.ensures.none m fs scope home y has r.1)

pub returns-in_ok-add-in-Some-clause-edges : goal.returns-in_ok-add-in-Some-clause-edges
returns-in_ok-add-in-Some-clause-edges c = λ m fs scope home once. one_reference m fs c.args.scoped.now.names.now c.args.graph.now c.add.new.self c.args.name.now c.args.from c.in-Some.to once c.in-Some.ensures.within (c.in-Some.ensures.own m fs scope home) c.in_ok-add-in-Some.ensures.added
