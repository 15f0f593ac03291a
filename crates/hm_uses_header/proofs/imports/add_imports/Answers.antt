use Rattle.std.proofs.Common.{refl}
use Rattle.hm_uses.specs.Mentions.{import_mentions, imports_mentions}
use Rattle.hm_uses_header.proofs.Steps.{row_none, row_more, row_all}
use Rattle.hm_uses_header.proofs.Listed.{AllKnown, one_of_imports}
use Rattle.hm_uses_header.proofs.imports.add_imports.Goals as goal

pub imports-init : goal.imports-init
imports-init c = row_none (AllKnown c.args.interfaces.now c.args.imports.now) import_mentions imports_mentions (λ x rest. refl) refl c.args.found.now.items c.args.imports.now

pub imports-preserved : goal.imports-preserved
imports-preserved c =
    row_more (AllKnown c.args.interfaces.now c.args.imports.now) import_mentions imports_mentions (λ x rest. refl) refl
    c.args.found.now.items c.imports.found.items c.add_import.new.found.items c.args.imports.now c.imports.import-index c.import-item.result c.imports-test.true c.import-item.is c.imports.invariant
    (one_of_imports c.imports.found.items c.add_import.new.found.items c.import-item.result c.args.interfaces.now c.args.imports.now c.imports.import-index c.imports-test.true c.import-item.is c.in_ok-add_import.ensures)

pub returns : goal.returns
returns c =
    row_all (AllKnown c.args.interfaces.now c.args.imports.now) import_mentions imports_mentions (λ x rest. refl) refl
    c.args.found.now.items c.imports.found.items c.args.imports.now c.imports.import-index c.imports-test.false c.imports.invariant
