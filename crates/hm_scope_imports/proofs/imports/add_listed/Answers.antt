use Rattle.std.proofs.Common.{None, [], get_or}
use Rattle.std.proofs.lemmas.List.{get_or_default}
use Rattle.hm_names.specs.declared.namespace.Namespace.TheVariants.{Types}
use Rattle.hm_scope_imports.specs.Selections.{IsSelectedAs}
use Rattle.hm_scope_tables.specs.declared.keys.Key.{Key}
use Rattle.hm_names.proofs.AddedPairs.{for_more, for_all}
use Rattle.hm_scope_imports.proofs.imports.add_listed.Goals as goal

pub loop-name-preserved : goal.loop-name-preserved
loop-name-preserved c =
    let b = c.args.brought.now in
    let none : Key = record { space = Types; qualifier = None; text = record { ref_ptr = (0, 0); now = [] } } in
    let name : Key = get_or c.args.names.now c.loop-name.name-index none in
    for_more (λ (k : Key) p. IsSelectedAs c.args.interface.now b.selection.now b.qualified b.name.now k.space k.text.now p) c.args.pairs.now.items c.loop-name.pairs.items c.add_name.new.pairs.items c.args.names.now c.loop-name.name-index name c.loop-name-test.true
    (get_or_default c.args.names.now c.loop-name.name-index none name c.loop-name-test.true) c.loop-name.invariant c.in_ok-add_name.ensures

pub returns : goal.returns
returns c =
    let b = c.args.brought.now in
    for_all (λ (k : Key) p. IsSelectedAs c.args.interface.now b.selection.now b.qualified b.name.now k.space k.text.now p) c.args.pairs.now.items c.loop-name.pairs.items c.args.names.now c.loop-name.name-index c.loop-name-test.false c.loop-name.invariant
