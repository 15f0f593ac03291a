use Rattle.hm_scope_imports.proofs.SelectedPairs.{type_adds, constructor_adds, value_adds}
use Rattle.hm_scope_imports.proofs.imports.add_name.Goals as goal

pub returns-in_ok-add_entry_named-in-Types-2 : goal.returns-in_ok-add_entry_named-in-Types-2
returns-in_ok-add_entry_named-in-Types-2 c =
    let b = c.args.brought.now in
    rw c.in-Types.is
    (type_adds c.args.interface.now b.selection.now b.qualified b.name.now c.args.name.now.text.now c.args.pairs.now.items c.add_entry_named.new.pairs.items c.add_entry_named-in-Types.new.pairs.items
    (rw c.types.ensures.value at c.in_ok-add_entry_named-in-Types.ensures) (rw c.synonyms.ensures.value at c.in_ok-add_entry_named-in-Types-2.ensures))

pub returns-in_ok-add_entry_named-in-Constructors : goal.returns-in_ok-add_entry_named-in-Constructors
returns-in_ok-add_entry_named-in-Constructors c =
    let b = c.args.brought.now in
    rw c.in-Constructors.is
    (constructor_adds c.args.interface.now b.selection.now b.qualified b.name.now c.args.name.now.text.now c.args.pairs.now.items c.add_entry_named-in-Constructors.new.pairs.items
    (rw c.constructors.ensures.value at c.in_ok-add_entry_named-in-Constructors.ensures))

pub returns-in_ok-add_entry_named-in-Values : goal.returns-in_ok-add_entry_named-in-Values
returns-in_ok-add_entry_named-in-Values c =
    let b = c.args.brought.now in
    rw c.in-Values.is
    (value_adds c.args.interface.now b.selection.now b.qualified b.name.now c.args.name.now.text.now c.args.pairs.now.items c.add_entry_named-in-Values.new.pairs.items
    (rw c.values.ensures.value at c.in_ok-add_entry_named-in-Values.ensures))
