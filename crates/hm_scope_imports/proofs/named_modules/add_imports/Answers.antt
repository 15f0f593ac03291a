use Rattle.std.proofs.Common.{◌≡◌, ℕ, List, subst}
use Rattle.hm_syntax.specs.declared.ast.Import.{Import}
use Rattle.hm_names.specs.Bindings.{Adds}
use Rattle.hm_names.specs.Scope.{known_as}
use Rattle.hm_names.proofs.AddedPairs.{for_more, for_all}
use Rattle.hm_scope_imports.proofs.named_modules.add_imports.Goals as goal

pub loop-import-preserved : goal.loop-import-preserved
loop-import-preserved c = for_more (λ (i : Import) (x : List ℕ). known_as i ≡ x) c.args.names.now c.loop-import.names c.add_name.new.names c.args.imports.now c.loop-import.import-index c.import-item.result c.loop-import-test.true c.import-item.is c.loop-import.invariant
    (subst (λ (n : List ℕ). Adds c.loop-import.names c.add_name.new.names (λ x. n ≡ x)) c.import_name.ensures c.in_ok-add_name.ensures)

pub returns : goal.returns
returns c = for_all (λ (i : Import) (x : List ℕ). known_as i ≡ x) c.args.names.now c.loop-import.names c.args.imports.now c.loop-import.import-index c.loop-import-test.false c.loop-import.invariant
