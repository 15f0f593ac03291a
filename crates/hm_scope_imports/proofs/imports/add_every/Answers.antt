use Rattle.hm_scope_imports.proofs.SelectedPairs.{selected_adds}
use Rattle.hm_scope_imports.proofs.imports.add_every.Goals as goal

pub returns : goal.returns
returns c = selected_adds c.args.interface.now c.args.brought.now.selection.now c.args.brought.now.qualified c.args.brought.now.name.now
    c.args.pairs.now.items c.add_entries.new.pairs.items c.add_entries-2.new.pairs.items c.add_entries-3.new.pairs.items c.add_entries-4.new.pairs.items
    (rw c.types.ensures.value at c.in_ok-add_entries.ensures) (rw c.synonyms.ensures.value at c.in_ok-add_entries-2.ensures)
    (rw c.constructors.ensures.value at c.in_ok-add_entries-3.ensures) (rw c.values.ensures.value at c.in_ok-add_entries-4.ensures)
