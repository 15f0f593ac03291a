use Rattle.std.proofs.Common.{map}
use Rattle.hm_syntax.specs.declared.ast.Import.{Import}
use Rattle.hm_scope_imports.specs.Selections.{IsBroughtFrom}
use Rattle.hm_names.proofs.AddedPairs.{for_more, for_all}
use Rattle.hm_scope_imports.proofs.imports.add_written.Goals as goal

pub loop-import-preserved : goal.loop-import-preserved
loop-import-preserved c =
    for_more (λ (i : Import) p. IsBroughtFrom (map (λ f. f.now) c.args.interfaces.now) i p) c.args.pairs.now.items c.loop-import.pairs.items c.add_import.new.pairs.items c.args.imports.now c.loop-import.import-index c.import-item.result c.loop-import-test.true c.import-item.is c.loop-import.invariant c.in_ok-from.ensures

pub returns : goal.returns
returns c = for_all (λ (i : Import) p. IsBroughtFrom (map (λ f. f.now) c.args.interfaces.now) i p) c.args.pairs.now.items c.loop-import.pairs.items c.args.imports.now c.loop-import.import-index c.loop-import-test.false c.loop-import.invariant
