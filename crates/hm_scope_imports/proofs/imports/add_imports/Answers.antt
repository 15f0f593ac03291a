use Rattle.std.proofs.Common.{map}
use Rattle.std.proofs.lemmas.Bool.{both_ways}
use Rattle.hm_scope_imports.proofs.SelectedPairs.{written_adds, all_adds}
use Rattle.hm_scope_imports.proofs.imports.add_imports.Goals as goal

pub returns-then-names_prelude : goal.returns-then-names_prelude
returns-then-names_prelude c =
    let named = rw c.as_slice-imports.ensures at c.names_prelude.ensures in
    written_adds c.args.program.now (map (λ f. f.now) c.args.interfaces.now) c.args.pairs.now.items c.add_written.new.pairs.items
    (named.0 c.if-names_prelude.true) (rw c.as_slice-imports.ensures at c.in_ok-add_written.ensures)

pub returns : goal.returns
returns c =
    let named = rw c.as_slice-imports.ensures at c.names_prelude.ensures in
    all_adds c.args.program.now (map (λ f. f.now) c.args.interfaces.now) c.args.pairs.now.items c.add_written.new.pairs.items c.add_all_of_prelude.new.pairs.items
    (λ h. both_ways c.names_prelude.result c.if-names_prelude.false (named.1 h)) (rw c.as_slice-imports.ensures at c.in_ok-add_written.ensures) c.in_ok-add_all_of_prelude.ensures
