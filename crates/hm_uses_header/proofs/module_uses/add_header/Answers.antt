use Rattle.std.proofs.Common.{◌++◌, ◌∙◌, ap}
use Rattle.std.specs.Prelude.{true}
use Rattle.hm_uses.specs.declared.name_kind.NameKind.TheVariants.{ModuleName}
use Rattle.hm_uses.specs.Uses.{a_module}
use Rattle.hm_uses.specs.Found.{use_as}
use Rattle.hm_uses_header.proofs.Listed.{header_added}
use Rattle.hm_uses_header.proofs.module_uses.add_header.Goals as goal

pub returns : goal.returns
returns c =
    header_added c.args.tables.now c.args.interfaces.now c.args.header.now c.args.found.now.items c.add.new.found.items c.add_export_list.new.found.items c.add_imports.new.found.items
    (c.in_ok-add.ensures ∙ ap (λ x. c.args.found.now.items ++ use_as ModuleName true c.args.header.now.name (a_module x)) c.as_text.ensures) c.in_ok-add_export_list.ensures (rw c.as_slice.ensures at c.in_ok-add_imports.ensures)
