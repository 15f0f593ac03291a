use Rattle.std.proofs.Common.{List, subst}
use Rattle.hm_syntax.specs.declared.ast.Import.{Import}
use Rattle.hm_names.specs.Bindings.{Adds}
use Rattle.hm_names.specs.declared.faults.Fault.{Fault}
use Rattle.hm_names.proofs.AddedPairs.{ForEach, for_more, for_all}
use Rattle.hm_scope_imports.proofs.FaultyLists.{FaultOf, faults_are}
use Rattle.hm_scope_imports.proofs.faulty_imports.import_faults.Goals as goal

pub loop-import-preserved : goal.loop-import-preserved
loop-import-preserved c =
    let is = c.as_slice-import-items.ensures in
    for_more (λ (i : Import). FaultOf c.args.interfaces.now i) c.new-faults.result.items c.loop-import.faults.items c.add_import_faults.new.faults.items c.args.program.now.header.imports c.loop-import.import-index c.import-item.result
    (rw is at c.loop-import-test.true) (rw is at c.import-item.is) c.loop-import.invariant c.in_ok-from.ensures

pub returns : goal.returns
returns c =
    let all = for_all (λ (i : Import). FaultOf c.args.interfaces.now i) c.new-faults.result.items c.loop-import.faults.items c.args.program.now.header.imports c.loop-import.import-index (rw c.as_slice-import-items.ensures at c.loop-import-test.false) c.loop-import.invariant in
    faults_are c.args.program.now c.args.interfaces.now c.loop-import.faults.items
    (subst (λ (l : List Fault). Adds l c.loop-import.faults.items (ForEach (λ (i : Import). FaultOf c.args.interfaces.now i) c.args.program.now.header.imports)) c.new-faults.ensures.items all)
