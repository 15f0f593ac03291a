use Rattle.std.proofs.Common.{drop}
use Rattle.hm_uses.specs.Mentions.{imports_mentions}
use Rattle.hm_uses_header.proofs.Listed.{AllKnown}
use Rattle.hm_uses_header.specs.Adding.{Leaves}
use Rattle.hm_uses_header.proofs.imports.add_imports.Given as goal

abbrev pub invariant-imports : goal.invariant-imports
invariant-imports l = Leaves l.initial.found.items l.found.items (imports_mentions (drop l.import-index l.imports)) (imports_mentions l.imports) (AllKnown l.interfaces l.imports)
