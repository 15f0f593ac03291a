use Rattle.std.proofs.Common.{◌≡◌, ℕ, Some, sym, ◌∙◌, subst}
use Rattle.hm_infer_dependencies.specs.Nodes.{DeclarationEdge}
use Rattle.hm_names_keys.proofs.Pushed.{some_injective}
use Rattle.hm_infer_dependencies.proofs.EdgeLists.{adds_iff}
use Rattle.hm_infer_dependencies.proofs.edges.add_owned.Goals as goal

pub returns-in_ok-add_references-in-Some-clause-edges : goal.returns-in_ok-add_references-in-Some-clause-edges
returns-in_ok-add_references-in-Some-clause-edges c =
    adds_iff c.args.graph.now c.add_references.new.graph (DeclarationEdge c.args.numbered.now.numbers.now c.args.numbered.now.decl.now c.in-Some.own) (λ x y. (own : ℕ) × (c.args.owner ≡ Some own) × DeclarationEdge c.args.numbered.now.numbers.now c.args.numbered.now.decl.now own x y)
    (λ x y h. (c.in-Some.own, c.in-Some.is, h)) (λ x y h. subst (λ o. DeclarationEdge c.args.numbered.now.numbers.now c.args.numbered.now.decl.now o x y) (some_injective (sym h.1 ∙ c.in-Some.is)) h.2)
    c.in_ok-add_references-in-Some.ensures.edges
