use Rattle.std.proofs.Common.{◌≡◌, take, Contains}
use Rattle.hm_syntax.specs.declared.ast.Import.{Import}
use Rattle.hm_names.specs.Scope.{prelude_name}
use Rattle.hm_scope_imports.proofs.imports.names_prelude.Given as goal

abbrev pub invariant-loop-import : goal.invariant-loop-import
invariant-loop-import l = (i : Import) → Contains (take l.import-index l.imports) i → ¬ (i.name.text ≡ prelude_name)
