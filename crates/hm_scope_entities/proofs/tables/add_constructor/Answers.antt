use Rattle.std.proofs.Common.{◌++◌, ◌∷◌, [], map, ap, subst, arith}
use Rattle.hm_names.specs.Described.{described}
use Rattle.hm_names.specs.Entities.{named}
use Rattle.hm_scope_tables.specs.KnownTables.{known_arity, KnowsConstructors}
use Rattle.hm_scope_entities.proofs.FirstDescriptions.{constructor_noted}
use Rattle.hm_syntax.specs.Trees.{DataConstructor, data_constructor}
use Rattle.hm_syntax.specs.Lists.{types}
use Rattle.hm_names.proofs.Rows.{types_counted}
use Rattle.hm_scope_entities.proofs.tables.add_constructor.Goals as goal

pub returns : goal.returns
returns c = λ before t known.
    let home = c.args.home.now in
    let seen = c.constr.view_is in
    subst (λ (d : DataConstructor). KnowsConstructors (before ++ described home t d ∷ []) (map known_arity c.note_arity.new.table.entries)) seen
    (constructor_noted before (map known_arity c.args.constructors.now.entries) (map known_arity c.note_arity.new.table.entries)
    (record { entity = named home c.as_str.result.now; arity = c.len.result }) (described home t (data_constructor c.constr.inside.name (types c.constr.inside.args.items)))
    c.in_ok-note_arity.ensures (ap (named home) c.as_str.ensures) (omega (arith, c.constr.inside.args.ok.0, c.len.ensures, types_counted c.constr.inside.args.items)) known)
