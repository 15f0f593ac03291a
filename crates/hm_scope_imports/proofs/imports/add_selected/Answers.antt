use Rattle.std.proofs.Common.{sym, ap, ◌∙◌}
use Rattle.hm_scope_imports.specs.declared.selections.Selection.TheVariants as choose
use Rattle.hm_scope_imports.proofs.SelectedPairs.{listed_adds}
use Rattle.hm_scope_imports.proofs.imports.add_selected.Goals as goal

pub returns-in_ok-add_listed-in-Only : goal.returns-in_ok-add_listed-in-Only
returns-in_ok-add_listed-in-Only c =
    let b = c.args.brought.now in
    listed_adds c.args.interface.now b.selection.now b.qualified b.name.now c.args.pairs.now.items c.add_listed.new.pairs.items c.keys.result.now
    (c.in-Only.is ∙ ap choose.Only (sym c.keys.ensures)) c.in_ok-add_listed-in-Only.ensures
