use Rattle.std.proofs.Common.{◌++◌, ◌∷◌, [], ◌∙◌, sym, ap, subst}
use Rattle.hm_syntax.specs.Trees.{Declaration}
use Rattle.hm_syntax.specs.Views.OfExpressions.{declaration_of}
use Rattle.hm_names.specs.Described.{declared_constructors}
use Rattle.hm_scope_entities.specs.Owners.{IsOwners}
use Rattle.hm_scope_entities.proofs.OwnerTables.{declared_data}
use Rattle.hm_scope_entities.proofs.constructors.note_declaration.Goals as goal

pub returns-in_ok-note_constructors-in-DataType : goal.returns-in_ok-note_constructors-in-DataType
returns-in_ok-note_constructors-in-DataType c = λ ds table.
    let seen = ap declaration_of (sym c.in-DataType.is) ∙ c.decl.view_is in
    let m = c.args.module.now in
    subst (λ (d : Declaration). IsOwners (ds ++ declared_constructors m (d ∷ [])) c.note_constructors.new.owners) seen
    (declared_data m ds c.in-DataType.name c.in-DataType.params.items c.in-DataType.constrs.items c.note_constructors.new.owners (rw c.deref.ensures.value at c.in_ok-note_constructors-in-DataType.ensures ds table))
