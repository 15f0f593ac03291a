use Rattle.std.proofs.Common.{ℕ, List, subst}
use Rattle.hm_names.specs.Bindings.{Adds}
use Rattle.hm_scope_imports.specs.Selections.{IsSelectedPair}
use Rattle.hm_scope_imports.proofs.SelectedPairs.{brought_adds}
use Rattle.hm_scope_imports.proofs.imports.add_brought.Goals as goal

pub returns : goal.returns
returns c =
    let σ = c.in_ok-selection.selection in
    brought_adds c.args.pairs.now.items c.add_selected.new.pairs.items c.args.interface.now c.args.import.now σ c.in_ok-selection.ensures
    (subst (λ (u : List ℕ). Adds c.args.pairs.now.items c.add_selected.new.pairs.items (IsSelectedPair c.args.interface.now σ c.args.import.now.qualified u)) c.import_name.ensures c.in_ok-add_selected.ensures)
