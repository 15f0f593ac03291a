use Rattle.std.proofs.Common.{◌≡◌, ◌++◌, drop}
use Rattle.hm_uses_symbols.specs.Symbols.{declared_by_all}
use Rattle.hm_uses_symbols.proofs.declared.add_all_declared.Given as goal

abbrev pub invariant-row : goal.invariant-row
invariant-row l = l.found.items ++ declared_by_all (drop l.decl-index l.decls) ≡ l.fn.found.items ++ declared_by_all l.decls
