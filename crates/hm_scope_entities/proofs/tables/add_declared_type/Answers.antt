use Rattle.std.proofs.Common.{◌++◌, ◌∷◌, [], map, ap, sym, ◌∙◌, subst, refl, arith, length}
use Rattle.hm_names.specs.Entities.{named}
use Rattle.hm_syntax.specs.Trees.{Declaration}
use Rattle.hm_syntax.specs.Views.OfExpressions.{declaration_of}
use Rattle.hm_names.specs.Described.{algebraic, declared_synonym, declared_types}
use Rattle.hm_scope_tables.specs.KnownTables.{known_arity, KnowsTypes}
use Rattle.hm_scope_entities.proofs.FirstDescriptions.{type_noted}
use Rattle.hm_scope_entities.proofs.tables.add_declared_type.Goals as goal

pub returns-in_ok-note_arity-in-DataType : goal.returns-in_ok-note_arity-in-DataType
returns-in_ok-note_arity-in-DataType c = λ before ss known.
    let seen = ap declaration_of (sym c.in-DataType.is) ∙ c.decl.view_is in
    let home = c.args.home.now in
    subst (λ (d : Declaration). KnowsTypes (before ++ declared_types home (d ∷ [])) (map known_arity c.note_arity.new.table.entries) ss) seen
    (type_noted before (map known_arity c.args.types.now.entries) (map known_arity c.note_arity.new.table.entries) ss
    (record { entity = named home c.as_str.result.now; arity = c.len.result }) (record { entity = named home c.in-DataType.name.text; meaning = algebraic (length c.in-DataType.params.items) })
    c.in_ok-note_arity-in-DataType.ensures (ap (named home) c.as_str.ensures) (omega (arith, c.in-DataType.params.ok.0, c.len.ensures)) refl known)

pub returns-in_ok-note_arity-in-Newtype : goal.returns-in_ok-note_arity-in-Newtype
returns-in_ok-note_arity-in-Newtype c = λ before ss known.
    let seen = ap declaration_of (sym c.in-Newtype.is) ∙ c.decl.view_is in
    let home = c.args.home.now in
    subst (λ (d : Declaration). KnowsTypes (before ++ declared_types home (d ∷ [])) (map known_arity c.note_arity-in-Newtype.new.table.entries) ss) seen
    (type_noted before (map known_arity c.args.types.now.entries) (map known_arity c.note_arity-in-Newtype.new.table.entries) ss
    (record { entity = named home c.as_str-in-Newtype.result.now; arity = c.len-in-Newtype.result }) (record { entity = named home c.in-Newtype.name.text; meaning = algebraic (length c.in-Newtype.params.items) })
    c.in_ok-note_arity-in-Newtype.ensures (ap (named home) c.as_str-in-Newtype.ensures) (omega (arith, c.in-Newtype.params.ok.0, c.len-in-Newtype.ensures)) refl known)

pub returns-in_ok-note_arity-in-Synonym : goal.returns-in_ok-note_arity-in-Synonym
returns-in_ok-note_arity-in-Synonym c = λ before ss known.
    let seen = ap declaration_of (sym c.in-Synonym.is) ∙ c.decl.view_is in
    let home = c.args.home.now in
    subst (λ (d : Declaration). KnowsTypes (before ++ declared_types home (d ∷ [])) (map known_arity c.note_arity-in-Synonym.new.table.entries) ss) seen
    (type_noted before (map known_arity c.args.types.now.entries) (map known_arity c.note_arity-in-Synonym.new.table.entries) ss
    (record { entity = named home c.as_str-in-Synonym.result.now; arity = c.len-in-Synonym.result }) (record { entity = named home c.in-Synonym.name.text; meaning = declared_synonym c.in-Synonym.params.items c.in-Synonym.ty })
    c.in_ok-note_arity-in-Synonym.ensures (ap (named home) c.as_str-in-Synonym.ensures) (omega (arith, c.in-Synonym.params.ok.0, c.len-in-Synonym.ensures)) refl known)
