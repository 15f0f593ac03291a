use Rattle.std.proofs.Common.{◌≡◌, rules}
use Rattle.hm_names.specs.Bindings.{IsBroughtPair}
use Rattle.hm_names.specs.Scope.{prelude_name, import_prelude}
use Rattle.hm_scope_imports.specs.declared.selections.Selection.TheVariants.{Every}
use Rattle.hm_names.proofs.AddedPairs.{adds_where}
use Rattle.hm_scope_imports.proofs.SelectedPairs.{brought_adds, every_selected}
use Rattle.hm_scope_imports.proofs.imports.add_prelude.Goals as goal

pub returns : goal.returns
returns c =
    let same : c.args.interface.now.name ≡ prelude_name = search rules in
    adds_where c.args.pairs.now.items c.add_selected.new.pairs.items (c.args.interface.now.name ≡ prelude_name) (IsBroughtPair c.args.interface.now import_prelude) same
    (brought_adds c.args.pairs.now.items c.add_selected.new.pairs.items c.args.interface.now import_prelude Every (every_selected c.args.interface.now) c.in_ok-add_selected.ensures)
