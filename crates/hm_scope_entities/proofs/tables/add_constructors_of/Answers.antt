use Rattle.std.proofs.Common.{◌++◌, ◌∷◌, [], List, map, ap, sym, ◌∙◌, subst}
use Rattle.hm_syntax.specs.Trees.{Declaration}
use Rattle.hm_syntax.specs.Views.OfExpressions.{declaration_of}
use Rattle.hm_names.specs.Described.{ConstructorDescription, declared_constructors}
use Rattle.hm_scope_tables.specs.KnownTables.{known_arity, KnowsConstructors}
use Rattle.hm_scope_entities.proofs.FirstDescriptions.{declared_row}
use Rattle.hm_scope_entities.proofs.tables.add_constructors_of.Goals as goal

pub returns-in_ok-add_constructor_row-in-DataType : goal.returns-in_ok-add_constructor_row-in-DataType
returns-in_ok-add_constructor_row-in-DataType c = λ before known.
    let seen = ap declaration_of (sym c.in-DataType.is) ∙ c.decl.view_is in
    let home = c.args.home.now in
    let row = c.in_ok-add_constructor_row-in-DataType.ensures before c.in-DataType.name known in
    subst (λ (d : Declaration). KnowsConstructors (before ++ declared_constructors home (d ∷ [])) (map known_arity c.add_constructor_row.new.constructors.entries)) seen
    (declared_row (λ (ds : List ConstructorDescription). KnowsConstructors ds (map known_arity c.add_constructor_row.new.constructors.entries)) before home c.in-DataType.name c.in-DataType.constrs.items (rw c.deref.ensures.value at row))
