use Rattle.std.proofs.Common.{List, subst}
use Rattle.hm_syntax.specs.Trees.{Declaration}
use Rattle.hm_names.specs.Bindings.{Adds}
use Rattle.hm_names.specs.declared.faults.Fault.{Fault}
use Rattle.hm_scope.specs.Synonyms.{IsMarkedFault}
use Rattle.hm_scope.proofs.SynonymReferences.{faults_more, all_of, all_recursive}
use Rattle.hm_scope.proofs.recursive_synonyms.synonym_faults.Goals as goal

pub decls-preserved : goal.decls-preserved
decls-preserved c = λ once.
    let is = c.as_slice-decl-items.ensures in
    faults_more c.args.names.now c.in_ok-marks.marks.items c.new-faults.result.items c.decls.faults.items c.add_recursive.new.faults.items c.args.program.now.decls c.decls.decl-index c.decl-item.result
    (rw is at c.decls-test.true) (rw is at c.decl-item.is) (c.decls.invariant once) (rw c.deref.ensures.value at (c.in_ok-add_recursive.ensures once))

pub returns : goal.returns
returns c = λ fs synonyms graph.
    let is = c.as_slice-decl-items.ensures in
    let names = c.args.names.now in
    let marks = c.in_ok-marks.marks.items in
    all_recursive c.args.program.now fs names c.args.graph.now marks c.decls.faults.items synonyms graph c.in_ok-marks.ensures.marks
    (subst (λ (l : List Fault). Adds l c.decls.faults.items (IsMarkedFault names marks c.args.program.now.decls)) c.new-faults.ensures.items
    (all_of (λ (ds : List Declaration). Adds c.new-faults.result.items c.decls.faults.items (IsMarkedFault names marks ds)) c.args.program.now.decls c.decls.decl-index (rw is at c.decls-test.false) (c.decls.invariant synonyms.once)))
