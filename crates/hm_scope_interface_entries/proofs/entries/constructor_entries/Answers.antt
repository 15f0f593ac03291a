use Rattle.std.proofs.Common.{◌∙◌, ◌∷◌, ap, map, Bor}
use Rattle.hm_types.specs.StandardPrelude.{prelude_interface}
use Rattle.hm_names.specs.declared.namespace.Namespace.TheVariants.{Constructors}
use Rattle.hm_scope_interface_entries.specs.ExportedEntries.{AreConstructorEntries}
use Rattle.hm_names.specs.ModuleCores.{ModuleCore}
use Rattle.hm_scope_interface_entries.proofs.SoundCores.{distinct_parameters, constructors_at, entries_at}
use Rattle.hm_scope_interface_entries.proofs.entries.constructor_entries.Goals as goal

pub add_constructors-requires : goal.add_constructors-requires
add_constructors-requires c =
    let r = c.requires.core in
    let core = c.args.core.now in
    let home = c.as_str.ensures ∙ ap (λ (k : ModuleCore). k.name) c.core.view_is in
    let decls = c.as_slice.ensures ∙ ap (λ (k : ModuleCore). k.decls) c.core.view_is in
    distinct_parameters r.module_of (prelude_interface ∷ r.imports) core r.is_core c.in_ok-known.known (constructors_at core c.in_ok-known.known home decls c.requires.interfaces c.in_ok-known.ensures)

pub returns : goal.returns
returns c =
    let r = c.requires.core in
    let core = c.args.core.now in
    let own = ap (λ (k : ModuleCore). k.name) c.core.view_is in
    let home = c.as_str.ensures ∙ own in
    let decls = c.as_slice.ensures ∙ ap (λ (k : ModuleCore). k.decls) c.core.view_is in
    let constructors = constructors_at core c.in_ok-known.known home decls c.requires.interfaces c.in_ok-known.ensures in
    let names = c.as_slice-exports.ensures ∙ ap (λ (k : ModuleCore). k.exported_constructors) c.core.view_is in
    entries_at (λ l. AreConstructorEntries core l c.add_constructors.new.constructors.items) names (r.is_core.ordered Constructors) (λ up. c.in_ok-add_constructors.ensures core own constructors up c.new-entries.ensures.items)
