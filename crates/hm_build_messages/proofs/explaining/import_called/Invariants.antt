use Rattle.std.proofs.Common.{◌≡◌, All, take}
use Rattle.hm_syntax.specs.declared.ast.Import.{Import}
use Rattle.hm_build_messages.proofs.explaining.import_called.Given as goal

abbrev pub invariant-calls : goal.invariant-calls
invariant-calls l = All (λ (n : Import). ¬ (n.name.text ≡ l.name)) (take l.index l.imports)
