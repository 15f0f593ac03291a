use Rattle.std.proofs.Common.{List, [], ◌∙◌}
use Rattle.std.specs.Prelude.{slice_index_or}
use Rattle.hm_syntax.specs.Trees.{Declaration}
use Rattle.hm_scope.specs.Synonyms.{RefersIn, AddsReferences}
use Rattle.hm_scope.proofs.SynonymReferences.{declarations_more, graph_of_references, all_of}
use Rattle.hm_scope.proofs.declared_synonyms.reference_graph.Goals as goal

pub decls-preserved : goal.decls-preserved
decls-preserved c =
    let is = c.as_slice-decl-items.ensures in
    record {
      nodes = c.in_ok-add_declaration.ensures.nodes ∙ c.decls.invariant.nodes;
      edges = λ fs scope once. declarations_more c.args.program.now fs c.args.names.now c.in_ok-graph.graph c.decls.graph c.add_declaration.new.graph c.args.program.now.decls c.decls.decl-index c.decl-item.result
          (rw is at c.decls-test.true) (rw is at c.decl-item.is) (c.decls.invariant.edges fs scope once) (c.in_ok-add_declaration.ensures.edges c.args.program.now fs scope c.as_str.ensures once);
    }

pub returns-clause-edges : goal.returns-clause-edges
returns-clause-edges c = λ fs scope synonyms.
    let is = c.as_slice-decl-items.ensures in
    graph_of_references c.args.program.now fs c.args.names.now c.in_ok-graph.graph c.decls.graph (c.decls.invariant.nodes ∙ (c.in_ok-graph.ensures.nodes ∙ c.len.ensures)) c.in_ok-graph.ensures.edges
    (all_of (λ (ds : List Declaration). AddsReferences c.args.names.now c.in_ok-graph.graph c.decls.graph (λ k y. RefersIn c.args.program.now fs ds (slice_index_or c.args.names.now k []) y)) c.args.program.now.decls c.decls.decl-index
    (rw is at c.decls-test.false) (c.decls.invariant.edges fs scope synonyms.once))
