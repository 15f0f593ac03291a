use Rattle.std.proofs.Common.{◌≡◌, ℕ, ◌↔◌, ◌⊎◌, ⊎_elim, inl, inr, List, length, Contains, refl, sym, ap, ◌∙◌, subst, rules}
use Rattle.hm_typing.specs.Names.{IsOneOf}
use Rattle.hm_syntax.specs.Views.OfExpressions.{declaration_of}
use Rattle.hm_infer_dependencies.specs.References.{pattern_variables}
use Rattle.hm_infer_dependencies.specs.Walks.{IsNodeWith}
use Rattle.hm_infer_dependencies.specs.Nodes.{AddsEdges, Star}
use Rattle.hm_infer_dependencies.proofs.Walking.{noted_below, Walks-none, Walks-scope}
use Rattle.hm_infer_dependencies.proofs.EdgeLists.{hidden_nodes, row_below, adds_both, Row, Column}
use Rattle.hm_infer_dependencies.proofs.edges.add_star.Goals as goal

pub show-requires : goal.show-requires
show-requires c = noted_below c.args.numbered.now.numbers.now _ _ _ c.hide_pattern.new.shown c.new-noted.result.items _ c.deref.result.now c.new-noted.ensures.items c.deref.ensures.value c.in_ok-hide_pattern.ensures refl

pub add_row-requires-clause-row : goal.add_row-requires-clause-row
add_row-requires-clause-row c =
    row_below c.args.numbered.now.numbers.now (λ y. IsOneOf y (pattern_variables c.in-Pattern.pat)) c.deref-2.result.now (length c.args.graph.now) c.requires.size
    (hidden_nodes c.args.numbered.now.numbers.now (pattern_variables c.in-Pattern.pat) c.args.shown.now _ c.new-noted.result.items _ c.deref-2.result.now _ refl c.requires.shown c.new-noted.ensures.items c.deref-2.ensures.value c.in_ok-hide_pattern.ensures)

pub add_column-requires-clause-row : goal.add_column-requires-clause-row
add_column-requires-clause-row c =
    row_below c.args.numbered.now.numbers.now (λ y. IsOneOf y (pattern_variables c.in-Pattern.pat)) c.deref-3.result.now (length c.add_row.new.graph) (c.in_ok-add_row.ensures.len ∙ c.requires.size)
    (hidden_nodes c.args.numbered.now.numbers.now (pattern_variables c.in-Pattern.pat) c.args.shown.now _ c.new-noted.result.items _ c.deref-3.result.now _ refl c.requires.shown c.new-noted.ensures.items c.deref-3.ensures.value c.in_ok-hide_pattern.ensures)

pub returns-clause-shown : goal.returns-clause-shown
returns-clause-shown c =
    (Walks-scope c.args.numbered.now.numbers.now (pattern_variables c.in-Pattern.pat) (λ y. ⊥) c.args.shown.now c.hide_pattern.new.shown c.hide_pattern.new.shown c.show.new.shown c.new-noted.result.items c.hide_pattern.new.noted.items c.deref.result.now Rattle.std.proofs.Common.[] Rattle.std.proofs.Common.[]
    c.new-noted.ensures.items c.deref.ensures.value c.in_ok-hide_pattern.ensures (Walks-none c.args.numbered.now.numbers.now (λ y. ⊥) c.hide_pattern.new.shown Rattle.std.proofs.Common.[] (λ y h. h)) c.show.ensures).same

pub returns-clause-edges : goal.returns-clause-edges
returns-clause-edges c =
    let f : (k : ℕ) → Contains c.deref-2.result.now k ↔ IsNodeWith c.args.numbered.now.numbers.now (λ y. IsOneOf y (pattern_variables c.in-Pattern.pat)) k =
    hidden_nodes c.args.numbered.now.numbers.now (pattern_variables c.in-Pattern.pat) c.args.shown.now _ c.new-noted.result.items _ c.deref-2.result.now _ refl c.requires.shown c.new-noted.ensures.items c.deref-2.ensures.value c.in_ok-hide_pattern.ensures in
    let g : (k : ℕ) → Contains c.deref-3.result.now k ↔ IsNodeWith c.args.numbered.now.numbers.now (λ y. IsOneOf y (pattern_variables c.in-Pattern.pat)) k =
    hidden_nodes c.args.numbered.now.numbers.now (pattern_variables c.in-Pattern.pat) c.args.shown.now _ c.new-noted.result.items _ c.deref-3.result.now _ refl c.requires.shown c.new-noted.ensures.items c.deref-3.ensures.value c.in_ok-hide_pattern.ensures in
    subst (λ d. AddsEdges c.args.graph.now c.add_column.new.graph (Star c.args.numbered.now.numbers.now d c.args.own)) (ap declaration_of (sym c.in-Pattern.is) ∙ c.decl.view_is)
    (adds_both c.args.graph.now c.add_row.new.graph c.add_column.new.graph (Row c.args.own c.deref-2.result.now) (Column c.args.own c.deref-3.result.now) (Star c.args.numbered.now.numbers.now (declaration_of (Rattle.hm_syntax.specs.declared.ast.DeclKind.TheVariants.Pattern c.in-Pattern.place c.in-Pattern.pat c.in-Pattern.rhs)) c.args.own) c.in_ok-add_row.ensures.edges c.in_ok-add_column.ensures.edges
    (λ x y s. ⊎_elim (λ h. inl (h.0, (f y).0 h.1)) (λ h. inr (h.0, (g x).0 h.1)) s)
    (λ x y s. ⊎_elim (λ h. inl (h.0, (f y).1 h.1)) (λ h. inr (h.0, (g x).1 h.1)) s))
