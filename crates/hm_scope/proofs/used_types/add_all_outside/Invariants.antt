use Rattle.std.proofs.Common.{◌≡◌, ◌++◌, drop}
use Rattle.hm_scope.specs.UsedTypes.{all_types_outside}
use Rattle.hm_scope.proofs.used_types.add_all_outside.Given as goal

abbrev pub invariant-decls : goal.invariant-decls
invariant-decls l = l.out ++ all_types_outside (drop l.decl-index l.decls) ≡ l.initial.out ++ all_types_outside l.decls
