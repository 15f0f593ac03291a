use Rattle.std.proofs.Common.{◌∷◌, ℕ, List, ◌++◌, [], take, subst}
use Rattle.std.proofs.lemmas.List.{take_all}
use Rattle.hm_syntax.specs.Trees.{Declaration}
use Rattle.hm_names.specs.Described.{declared_constructors}
use Rattle.hm_scope_entities.specs.Owners.{IsOwners}
use Rattle.hm_scope_entities.proofs.OwnerTables.{declared_more, declared_none}
use Rattle.hm_scope_entities.proofs.constructors.note_declared.Goals as goal

pub loop-decl-init : goal.loop-decl-init
loop-decl-init c = λ ds table. declared_none c.args.program.now.header.name.text ds c.args.program.now.decls c.args.owners.now table

pub loop-decl-preserved : goal.loop-decl-preserved
loop-decl-preserved c = λ ds table.
    let is = c.as_slice-decl-items.ensures in
    declared_more c.args.program.now.header.name.text ds c.args.program.now.decls c.loop-decl.decl-index c.decl-item.result c.note_declaration.new.owners
    (rw is at c.loop-decl-test.true) (rw is at c.decl-item.is) (subst (λ (m : List ℕ). IsOwners ((ds ++ declared_constructors c.args.program.now.header.name.text (take c.loop-decl.decl-index c.args.program.now.decls)) ++ declared_constructors m (c.decl-item.result ∷ [])) c.note_declaration.new.owners)
    c.as_text-module.ensures (c.in_ok-note_declaration.ensures _ (c.loop-decl.invariant ds table)))

pub returns : goal.returns
returns c = λ ds table.
    let past = take_all c.loop-decl.decl-index c.args.program.now.decls (rw c.as_slice-decl-items.ensures at c.loop-decl-test.false) in
    subst (λ (l : List Declaration). IsOwners (ds ++ declared_constructors c.args.program.now.header.name.text l) c.loop-decl.owners) past (c.loop-decl.invariant ds table)
