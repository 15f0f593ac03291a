use Rattle.std.proofs.Common.{◌∙◌, ◌∷◌, ap}
use Rattle.hm_types.specs.StandardPrelude.{prelude_interface}
use Rattle.hm_names.specs.declared.namespace.Namespace.TheVariants.{Values}
use Rattle.hm_scope_interface_entries.specs.ExportedEntries.{AreValueEntries}
use Rattle.hm_names.specs.ModuleCores.{ModuleCore}
use Rattle.hm_names.specs.SchemeTables.{scheme_of}
use Rattle.hm_scope_interface_entries.proofs.OwnEntries.{all_own}
use Rattle.hm_scope_interface_entries.proofs.SoundCores.{values_of, values_at, bound_at, entries_at}
use Rattle.hm_scope_interface_entries.proofs.entries.value_entries.Goals as goal

pub returns-then-are_own : goal.returns-then-are_own
returns-then-are_own c =
    let r = c.requires.core in
    let core = c.args.core.now in
    let home = c.as_str-home.ensures ∙ ap (λ (k : ModuleCore). k.name) c.core.view_is in
    let decls = c.as_slice.ensures ∙ ap (λ (k : ModuleCore). k.decls) c.core.view_is in
    let bound = bound_at core c.in_ok-own.own decls c.in_ok-own.ensures in
    let tops = all_own r.module_of (prelude_interface ∷ r.imports) core r.is_core c.in_ok-own.own bound c.as_str-home.result.now home c.as_slice-exports.result.now (c.are_own.ensures c.if-are_own.true) in
    let names = c.as_slice-exports.ensures ∙ ap (λ (k : ModuleCore). k.exported_values) c.core.view_is in
    entries_at (λ l. AreValueEntries core (scheme_of c.args.schemes.now) l c.in_ok-own_value_entries.field-0.items) names (r.is_core.ordered Values) (λ up. c.in_ok-own_value_entries.ensures core tops up)

pub returns : goal.returns
returns c =
    let r = c.requires.core in
    let core = c.args.core.now in
    let home = c.as_str-home.ensures ∙ ap (λ (k : ModuleCore). k.name) c.core.view_is in
    let decls = c.as_slice.ensures ∙ ap (λ (k : ModuleCore). k.decls) c.core.view_is in
    let values = values_of r.module_of (prelude_interface ∷ r.imports) core r.is_core (record { home = c.as_str-home.result; own = c.in_ok-own.own; schemes = c.args.schemes; imported = c.in_ok-known_values.field-0 }) home
    (bound_at core c.in_ok-own.own decls c.in_ok-own.ensures)
    (values_at core c.in_ok-known_values.field-0 c.requires.interfaces c.in_ok-known_values.ensures) in
    let names = c.as_slice-exports.ensures ∙ ap (λ (k : ModuleCore). k.exported_values) c.core.view_is in
    entries_at (λ l. AreValueEntries core (scheme_of c.args.schemes.now) l c.add_values.new.entries.items) names (r.is_core.ordered Values) (λ up. c.in_ok-add_values.ensures core values up c.new-entries.ensures.items)
