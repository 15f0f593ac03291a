use Rattle.std.proofs.Common.{List}
use Rattle.hm_syntax.specs.Trees.{Declaration}
use Rattle.hm_names.specs.Bindings.{IsDeclaredPair}
use Rattle.hm_names.proofs.AddedPairs.{for_more, for_all}
use Rattle.hm_names.proofs.DeclaredPairs.{module_adds}
use Rattle.hm_scope_imports.proofs.in_scope.add_declared.Goals as goal

pub loop-decl-preserved : goal.loop-decl-preserved
loop-decl-preserved c =
    let decls : List Declaration = c.args.program.now.decls in
    let is = c.as_slice-decl-items.ensures in
    for_more (λ (d : Declaration). IsDeclaredPair c.args.program.now.header.name.text d) c.reserve.new.self.items c.loop-decl.pairs.items c.add_declaration.new.pairs.items decls c.loop-decl.decl-index c.decl-item.result
    (rw is at c.loop-decl-test.true) (rw is at c.decl-item.is) c.loop-decl.invariant (rw c.as_text-module_name.ensures at c.in_ok-add_declaration.ensures)

pub returns : goal.returns
returns c = module_adds c.args.pairs.now.items c.loop-decl.pairs.items c.args.program.now
    (rw c.in_ok-reserve.ensures.items at (for_all (λ (d : Declaration). IsDeclaredPair c.args.program.now.header.name.text d) c.reserve.new.self.items c.loop-decl.pairs.items c.args.program.now.decls c.loop-decl.decl-index (rw c.as_slice-decl-items.ensures at c.loop-decl-test.false) c.loop-decl.invariant))
