use Rattle.std.proofs.Common.{◌++◌, ◌∷◌, [], ◌∙◌, sym, ap, subst, List, length, arith}
use Rattle.hm_syntax.specs.Names.{Identifier}
use Rattle.hm_syntax.specs.Trees.{Declaration}
use Rattle.hm_syntax.specs.Views.OfExpressions.{declaration_of}
use Rattle.hm_names.specs.Described.{TypeDescription, algebraic, declared_synonym, declared_types}
use Rattle.hm_names.specs.Entities.{named}
use Rattle.hm_scope_interface_entries.specs.KnownExports.{KnowsTypes, meaning_of}
use Rattle.hm_scope_interface_entries.proofs.FirstTables.{noted}
use Rattle.hm_scope_interface_entries.proofs.known_exports.note_type.Goals as goal

pub returns-in_ok-note-in-DataType : goal.returns-in_ok-note-in-DataType
returns-in_ok-note-in-DataType c = λ ds h.
    let seen = ap declaration_of (sym c.in-DataType.is) ∙ c.decl.view_is in
    subst (λ (d : Declaration). KnowsTypes (ds ++ declared_types c.args.home.now (d ∷ [])) c.note.new.table) seen
    (noted (λ (d : TypeDescription). d.entity) (λ (d : TypeDescription). d.meaning) meaning_of ds (record { entity = named c.args.home.now c.in-DataType.name.text; meaning = algebraic (length c.in-DataType.params.items) }) c.args.types.now c.note.new.table c.own_key.result _ c.own_key.ensures (ap algebraic (omega (arith, c.in-DataType.params.ok.0, c.len.ensures))) h c.in_ok-note-in-DataType.ensures)

pub returns-in_ok-note-in-Newtype : goal.returns-in_ok-note-in-Newtype
returns-in_ok-note-in-Newtype c = λ ds h.
    let seen = ap declaration_of (sym c.in-Newtype.is) ∙ c.decl.view_is in
    subst (λ (d : Declaration). KnowsTypes (ds ++ declared_types c.args.home.now (d ∷ [])) c.note-in-Newtype.new.table) seen
    (noted (λ (d : TypeDescription). d.entity) (λ (d : TypeDescription). d.meaning) meaning_of ds (record { entity = named c.args.home.now c.in-Newtype.name.text; meaning = algebraic (length c.in-Newtype.params.items) }) c.args.types.now c.note-in-Newtype.new.table c.own_key-in-Newtype.result _ c.own_key-in-Newtype.ensures (ap algebraic (omega (arith, c.in-Newtype.params.ok.0, c.len-in-Newtype.ensures))) h c.in_ok-note-in-Newtype.ensures)

pub returns-in_ok-note-in-Synonym : goal.returns-in_ok-note-in-Synonym
returns-in_ok-note-in-Synonym c = λ ds h.
    let seen = ap declaration_of (sym c.in-Synonym.is) ∙ c.decl.view_is in
    subst (λ (d : Declaration). KnowsTypes (ds ++ declared_types c.args.home.now (d ∷ [])) c.note-in-Synonym.new.table) seen
    (noted (λ (d : TypeDescription). d.entity) (λ (d : TypeDescription). d.meaning) meaning_of ds (record { entity = named c.args.home.now c.in-Synonym.name.text; meaning = declared_synonym c.in-Synonym.params.items c.in-Synonym.ty }) c.args.types.now c.note-in-Synonym.new.table c.own_key-in-Synonym.result _ c.own_key-in-Synonym.ensures (ap (λ (l : List Identifier). declared_synonym l c.in-Synonym.ty) c.deref.ensures.value) h c.in_ok-note-in-Synonym.ensures)
