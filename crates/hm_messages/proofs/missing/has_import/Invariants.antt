use Rattle.std.proofs.Common.{◌≡◌, All, take}
use Rattle.hm_syntax.specs.declared.ast.Import.{Import}
use Rattle.hm_messages.proofs.missing.has_import.Given as goal

abbrev pub invariant-imports : goal.invariant-imports
invariant-imports l = All (λ (n : Import). ¬ (n.name.text ≡ l.name)) (take l.import-index l.import-items)
