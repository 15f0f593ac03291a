use Rattle.std.proofs.Common.{rules}
use Rattle.hm_syntax.specs.Lists.{declarations}
use Rattle.hm_scope_resolve.proofs.FaultLists.{all_faults, no_faults}
use Rattle.hm_scope_resolve.proofs.list_faults.add_list_faults.Goals as goal

pub returns-then-is_empty : goal.returns-then-is_empty
returns-then-is_empty c = no_faults c.args.decls.now c.args.faults.now.items (search rules)

pub returns : goal.returns
returns c =
    let t = c.in_ok-type_names.ensures in let k = c.in_ok-constructor_names.ensures in let b = c.in_ok-binding_names.ensures in let s = c.in_ok-signed.ensures in let o = c.in_ok-other_lengths.ensures in
    all_faults (declarations c.args.decls.now) c.args.faults.now.items c.add_repeated.new.faults.items c.add_repeated-2.new.faults.items c.add_repeated-3.new.faults.items c.add_repeated-4.new.faults.items c.add_unbound.new.faults.items c.add_faults.new.faults.items
    (rw t at c.in_ok-add_repeated.ensures) (rw k at c.in_ok-add_repeated-2.ensures) (rw b at c.in_ok-add_repeated-3.ensures) (rw s at c.in_ok-add_repeated-4.ensures) (rw s at c.in_ok-add_unbound.ensures) (rw o at c.in_ok-add_faults.ensures)
