use Rattle.std.proofs.Common.{ℕ, ◌↔◌, ⊎_elim, inl, inr, length, Contains, refl}
use Rattle.hm_infer_dependencies.specs.References.{DeclarationRefers}
use Rattle.hm_infer_dependencies.specs.Walks.{IsNodeWith}
use Rattle.hm_infer_dependencies.specs.Nodes.{Star, DeclarationEdge}
use Rattle.hm_infer_dependencies.proofs.EdgeLists.{found_nodes, row_below, adds_both, Row}
use Rattle.hm_infer_dependencies.proofs.edges.add_references.Goals as goal

pub add_row-requires-clause-row : goal.add_row-requires-clause-row
add_row-requires-clause-row c =
    row_below c.args.numbered.now.numbers.now (λ y. DeclarationRefers y c.args.numbered.now.decl.now) c.deref.result.now (length c.args.graph.now) c.requires.size
    (found_nodes c.args.numbered.now.numbers.now (λ y. DeclarationRefers y c.args.numbered.now.decl.now) c.args.shown.now _ c.new-found.result.items _ c.deref.result.now _ refl c.requires.shown c.new-found.ensures.items c.deref.ensures.value c.in_ok-find_in_decl.ensures)

pub returns-clause-edges : goal.returns-clause-edges
returns-clause-edges c =
    let f : (k : ℕ) → Contains c.deref.result.now k ↔ IsNodeWith c.args.numbered.now.numbers.now (λ y. DeclarationRefers y c.args.numbered.now.decl.now) k =
    found_nodes c.args.numbered.now.numbers.now (λ y. DeclarationRefers y c.args.numbered.now.decl.now) c.args.shown.now _ c.new-found.result.items _ c.deref.result.now _ refl c.requires.shown c.new-found.ensures.items c.deref.ensures.value c.in_ok-find_in_decl.ensures in
    adds_both c.args.graph.now c.add_row.new.graph c.add_star.new.graph (Row c.args.own c.deref.result.now) (Star c.args.numbered.now.numbers.now c.args.numbered.now.decl.now c.args.own) (DeclarationEdge c.args.numbered.now.numbers.now c.args.numbered.now.decl.now c.args.own) c.in_ok-add_row.ensures.edges c.in_ok-add_star.ensures.edges
    (λ x y s. ⊎_elim (λ h. inl (h.0, (f y).0 h.1)) inr s)
    (λ x y s. ⊎_elim (λ h. inl (h.0, (f y).1 h.1)) inr s)
