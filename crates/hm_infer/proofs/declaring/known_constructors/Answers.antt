use Rattle.std.proofs.Common.{◌∙◌, ◌∷◌, ap}
use Rattle.hm_types.specs.StandardPrelude.{prelude_interface}
use Rattle.hm_names.specs.ModuleCores.{ModuleCore}
use Rattle.hm_infer.proofs.CoreTables.{distinct}
use Rattle.hm_infer.proofs.declaring.known_constructors.Goals as goal

pub add_declared-requires : goal.add_declared-requires
add_declared-requires c = distinct c.requires.module_of (prelude_interface ∷ c.requires.imports) c.args.core.now c.requires.is_core c.as_slice.result.now (c.as_slice.ensures ∙ ap (λ (k : ModuleCore). k.decls) c.core.view_is)
