use Rattle.std.proofs.Common.{◌∙◌, ◌∷◌, ap, sym, map, Bor}
use Rattle.hm_types.specs.StandardPrelude.{prelude_interface}
use Rattle.hm_names.specs.declared.namespace.Namespace.TheVariants.{Types}
use Rattle.hm_scope_interface_entries.specs.ExportedEntries.{AreTypeEntries, AreSynonymEntries}
use Rattle.hm_names.specs.ModuleCores.{ModuleCore}
use Rattle.hm_scope_interface_entries.proofs.SoundCores.{sound_synonyms, types_at, entries_at}
use Rattle.hm_scope_interface_entries.proofs.entries.type_entries.Goals as goal

pub add_types-requires : goal.add_types-requires
add_types-requires c =
    let r = c.requires.core in
    let core = c.args.core.now in
    let home = c.as_str-home.ensures ∙ ap (λ (k : ModuleCore). k.name) c.core.view_is in
    let decls = c.as_slice.ensures ∙ ap (λ (k : ModuleCore). k.decls) c.core.view_is in
    sound_synonyms r.module_of (prelude_interface ∷ r.imports) core r.is_core c.in_ok-known.known (types_at core c.in_ok-known.known home decls c.requires.interfaces c.in_ok-known.ensures)

pub returns-clause-types : goal.returns-clause-types
returns-clause-types c =
    let r = c.requires.core in
    let core = c.args.core.now in
    let home = c.as_str-home.ensures ∙ ap (λ (k : ModuleCore). k.name) c.core.view_is in
    let decls = c.as_slice.ensures ∙ ap (λ (k : ModuleCore). k.decls) c.core.view_is in
    let types = types_at core c.in_ok-known.known home decls c.requires.interfaces c.in_ok-known.ensures in
    let names = c.as_slice-exports.ensures ∙ ap (λ (k : ModuleCore). k.exported_types) c.core.view_is in
    entries_at (λ l. AreTypeEntries core l c.add_types.new.types.items) names (r.is_core.ordered Types) (λ up. c.in_ok-add_types.ensures.types core types up c.new-types.ensures.items)

pub returns-clause-synonyms : goal.returns-clause-synonyms
returns-clause-synonyms c =
    let r = c.requires.core in
    let core = c.args.core.now in
    let home = c.as_str-home.ensures ∙ ap (λ (k : ModuleCore). k.name) c.core.view_is in
    let decls = c.as_slice.ensures ∙ ap (λ (k : ModuleCore). k.decls) c.core.view_is in
    let types = types_at core c.in_ok-known.known home decls c.requires.interfaces c.in_ok-known.ensures in
    let names = c.as_slice-exports.ensures ∙ ap (λ (k : ModuleCore). k.exported_types) c.core.view_is in
    entries_at (λ l. AreSynonymEntries core l c.add_types.new.synonyms.items) names (r.is_core.ordered Types) (λ up. c.in_ok-add_types.ensures.synonyms core types up c.new-synonyms.ensures.items)
