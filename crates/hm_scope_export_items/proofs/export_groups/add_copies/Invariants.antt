use Rattle.std.proofs.Common.{◌≡◌, ◌++◌, take}
use Rattle.hm_scope_export_items.proofs.export_groups.add_copies.Given as goal

abbrev pub invariant-loop-binding : goal.invariant-loop-binding
invariant-loop-binding l = l.out.items ≡ l.initial.out.items ++ take l.binding-index l.bindings
