use Rattle.std.proofs.Common.{◌≡◌, ◌++◌, ◌∷◌, [], List, ap, sym, ◌∙◌, subst}
use Rattle.std.specs.Prelude.{slice_index_or}
use Rattle.hm_syntax.specs.Names.{Identifier}
use Rattle.hm_names.specs.Variables.{constructors_in}
use Rattle.hm_syntax.specs.Trees.{Declaration}
use Rattle.hm_syntax.specs.Views.OfExpressions.{declaration_of}
use Rattle.hm_scope.specs.Synonyms.{RefersIn, AddsReferences, NamesOwn}
use Rattle.hm_scope.proofs.SynonymReferences.{absent_declaration, this_declaration, position_found, position_none}
use Rattle.hm_scope.proofs.declared_synonyms.add_declaration.Goals as goal

pub returns-in-None-clause-edges : goal.returns-in-None-clause-edges
returns-in-None-clause-edges c = λ m fs scope home once.
    let seen = ap declaration_of (sym c.in-Synonym.is) ∙ c.decl.view_is in
    let none = position_none c.as_str.result.now c.args.scoped.now.names.now c.in-None.ensures in
    subst (λ (d : Declaration). AddsReferences c.args.scoped.now.names.now c.args.graph.now c.args.graph.now (λ i y. RefersIn m fs (d ∷ []) (slice_index_or c.args.scoped.now.names.now i []) y)) seen
    (absent_declaration m fs c.args.scoped.now.names.now c.args.graph.now c.in-Synonym.name c.in-Synonym.params.items c.in-Synonym.ty (λ has. none (rw c.as_str.ensures has)))

pub returns-in_ok-add_references-in-Some-clause-edges : goal.returns-in_ok-add_references-in-Some-clause-edges
returns-in_ok-add_references-in-Some-clause-edges c = λ m fs scope home once.
    let seen = ap declaration_of (sym c.in-Synonym.is) ∙ c.decl.view_is in
    let used = c.as_slice.ensures ∙ (c.in_ok-add_type-in-Some.ensures ∙ ap (λ (l : List Identifier). l ++ constructors_in c.in-Synonym.ty) c.new-used.ensures) in
    let found = position_found c.as_str.result.now c.args.scoped.now.names.now c.in-Some.from c.in-Some.ensures in
    subst (λ (d : Declaration). AddsReferences c.args.scoped.now.names.now c.args.graph.now c.add_references.new.graph (λ i y. RefersIn m fs (d ∷ []) (slice_index_or c.args.scoped.now.names.now i []) y)) seen
    (this_declaration m fs c.args.scoped.now.names.now c.args.graph.now c.add_references.new.graph c.in-Synonym.name c.in-Synonym.params.items c.in-Synonym.ty c.in-Some.from once found.0 (found.1 ∙ c.as_str.ensures)
    (subst (λ (l : List Identifier). AddsReferences c.args.scoped.now.names.now c.args.graph.now c.add_references.new.graph (λ i y. (i ≡ c.in-Some.from) × NamesOwn m fs l y)) used (c.in_ok-add_references-in-Some.ensures.edges m fs scope home once)))
