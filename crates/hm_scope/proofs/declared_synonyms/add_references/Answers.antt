use Rattle.std.proofs.Common.{◌∙◌, ◌≡◌, List, Bor, map}
use Rattle.hm_scope.proofs.SynonymReferences.{used_more, all_of}
use Rattle.hm_syntax.specs.Names.{Identifier}
use Rattle.hm_scope.specs.Synonyms.{NamesOwn, AddsReferences}
use Rattle.hm_scope.proofs.declared_synonyms.add_references.Goals as goal

pub used-preserved : goal.used-preserved
used-preserved c = record {
  nodes = c.in_ok-add_reference.ensures.nodes ∙ c.used.invariant.nodes;
  edges = λ m fs scope home once. used_more m fs c.args.scoped.now.names.now c.args.graph.now c.used.graph c.add_reference.new.graph c.args.from c.args.used.now c.used.name-index c.name-item.result c.used-test.true c.name-item.is
      (c.used.invariant.edges m fs scope home once) (c.in_ok-add_reference.ensures.edges m fs scope home once);
}

pub returns-clause-edges : goal.returns-clause-edges
returns-clause-edges c = λ m fs scope home once. all_of (λ (l : List (Bor Identifier)). AddsReferences c.args.scoped.now.names.now c.args.graph.now c.used.graph (λ i y. (i ≡ c.args.from) × NamesOwn m fs (map (λ n. n.now) l) y)) c.args.used.now c.used.name-index c.used-test.false (c.used.invariant.edges m fs scope home once)
