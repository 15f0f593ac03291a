use Rattle.std.proofs.Common.{◌++◌, ◌∷◌, [], ◌∙◌, sym, ap, subst, map, List}
use Rattle.hm_syntax.specs.Names.{Identifier}
use Rattle.hm_syntax.specs.Trees.{Declaration, DataConstructor}
use Rattle.hm_syntax.specs.Views.OfExpressions.{declaration_of}
use Rattle.hm_scope_interface_entries.specs.KnownExports.{KnowsConstructors, ConstructorSource, declared, source_entity, source_of, declared_sources}
use Rattle.hm_scope_interface_entries.proofs.FirstTables.{noted, sources_of_data}
use Rattle.hm_scope_interface_entries.proofs.known_exports.note_declared.Goals as goal

pub returns-in_ok-note_constructors-in-DataType : goal.returns-in_ok-note_constructors-in-DataType
returns-in_ok-note_constructors-in-DataType c = λ ds h.
    let seen = ap declaration_of (sym c.in-DataType.is) ∙ c.decl.view_is in
    let told = c.in_ok-note_constructors-in-DataType.ensures ds h in
    subst (λ (d : Declaration). KnowsConstructors c.args.home.now (ds ++ declared_sources (d ∷ [])) c.note_constructors.new.constructors) seen
    (sources_of_data c.args.home.now ds c.in-DataType.name c.in-DataType.params.items c.in-DataType.constrs.items c.note_constructors.new.constructors
    (subst (λ (l : List DataConstructor). KnowsConstructors c.args.home.now (ds ++ map (declared c.in-DataType.name c.in-DataType.params.items) l) c.note_constructors.new.constructors) c.deref-in-DataType.ensures.value
    (subst (λ (l : List Identifier). KnowsConstructors c.args.home.now (ds ++ map (declared c.in-DataType.name l) c.deref-in-DataType.result.now) c.note_constructors.new.constructors) c.deref.ensures.value told)))

pub returns-in_ok-note-in-Newtype : goal.returns-in_ok-note-in-Newtype
returns-in_ok-note-in-Newtype c = λ ds h.
    let seen = ap declaration_of (sym c.in-Newtype.is) ∙ c.decl.view_is in
    let m = c.args.home.now in
    subst (λ (d : Declaration). KnowsConstructors c.args.home.now (ds ++ declared_sources (d ∷ [])) c.note.new.table) seen
    (noted (source_entity c.args.home.now) (λ (d : ConstructorSource). d) source_of ds (declared c.in-Newtype.name c.in-Newtype.params.items c.in-Newtype.constr) c.args.constructors.now c.note.new.table c.own_key.result _
    (c.own_key.ensures ∙ ap (λ (k : DataConstructor). source_entity c.args.home.now (declared c.in-Newtype.name c.in-Newtype.params.items k)) c.constr.view_is)
    (ap (λ (l : List Identifier). declared c.in-Newtype.name l c.in-Newtype.constr) c.deref-in-Newtype.ensures.value) h c.in_ok-note-in-Newtype.ensures)
