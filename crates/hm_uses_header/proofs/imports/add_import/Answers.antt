use Rattle.std.proofs.Common.{◌++◌, ◌∙◌, ap}
use Rattle.std.specs.Prelude.{false, option_map}
use Rattle.std.specs.Borrow.{Bor}
use Rattle.hm_types.specs.Interfaces.{Exports as Interface}
use Rattle.hm_uses.specs.declared.name_kind.NameKind.TheVariants.{ModuleName}
use Rattle.hm_uses.specs.Uses.{a_module}
use Rattle.hm_uses.specs.Found.{use_as}
use Rattle.hm_uses_header.proofs.Listed.{import_added}
use Rattle.hm_uses_header.proofs.imports.add_import.Goals as goal

pub returns : goal.returns
returns c =
    import_added c.args.found.now.items c.add.new.found.items c.args.import.now c.args.interfaces.now c.add_alias.new.found.items c.add_list.new.found.items (option_map (λ (f : Bor Interface). f.now) c.interface_named-interface.result)
    (rw c.as_str.ensures at c.interface_named-interface.ensures) (c.in_ok-add.ensures ∙ ap (λ x. c.args.found.now.items ++ use_as ModuleName false c.args.import.now.name (a_module x)) c.as_text.ensures) c.in_ok-add_alias.ensures c.in_ok-add_list.ensures
