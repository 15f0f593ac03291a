use Rattle.std.proofs.Common.{◌∙◌, ◌∷◌, ap}
use Rattle.hm_types.specs.StandardPrelude.{prelude_interface}
use Rattle.hm_names.specs.ModuleCores.{ModuleCore}
use Rattle.hm_names.specs.SchemeTables.{scheme_of}
use Rattle.hm_scope_interface_entries.proofs.SoundCores.{is_interface, is_interface_of}
use Rattle.hm_scope_interface.proofs.exporting.export.Goals as goal

pub new-requires : goal.new-requires
new-requires c =
    let r = c.requires.core in
    let types = c.in_ok-types.field-0 in
    is_interface r.module_of (prelude_interface ∷ r.imports) c.args.core.now r.is_core (scheme_of c.args.schemes.now) c.in_ok-name.name types.types.items types.synonyms.items c.in_ok-constructors.constructors.items c.in_ok-values.values.items
    c.in_ok-types.ensures.types c.in_ok-types.ensures.synonyms c.in_ok-constructors.ensures c.in_ok-values.ensures

pub returns-clause-interface : goal.returns-clause-interface
returns-clause-interface c =
    let r = c.requires.core in
    let types = c.in_ok-types.field-0 in
    is_interface_of r.module_of (prelude_interface ∷ r.imports) c.args.core.now r.is_core (scheme_of c.args.schemes.now) c.in_ok-name.name types.types.items types.synonyms.items c.in_ok-constructors.constructors.items c.in_ok-values.values.items
    c.in_ok-types.ensures.types c.in_ok-types.ensures.synonyms c.in_ok-constructors.ensures c.in_ok-values.ensures
    c.new.result (c.in_ok-name.ensures ∙ ap (λ (k : ModuleCore). k.name) c.core.view_is) c.new.ensures
