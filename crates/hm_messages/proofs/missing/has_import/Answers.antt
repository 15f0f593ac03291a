use Rattle.std.proofs.Common.{rules, ◌≡◌, All, subst}
use Rattle.std.proofs.lemmas.List.{take_all}
use Rattle.std.proofs.lemmas.List.Elements.{All-more}
use Rattle.hm_syntax.specs.declared.ast.Import.{Import}
use Rattle.hm_messages.proofs.missing.has_import.Goals as goal

pub imports-preserved : goal.imports-preserved
imports-preserved c =
    let without = λ (n : Import). ¬ (n.name.text ≡ c.args.name.now) in
    let other : ¬ (c.import-item.result.name.text ≡ c.args.name.now) = search rules in
    All-more without c.as_slice-import-items.result.now c.imports.import-index c.import-item.result c.imports-test.true c.imports.invariant (subst without c.import-item.is other)

pub returns-clause-hasnt : goal.returns-clause-hasnt
returns-clause-hasnt c =
    let without = λ (n : Import). ¬ (n.name.text ≡ c.args.name.now) in
    let items = c.as_slice-import-items.result.now in
    let same : items ≡ c.args.here.now.header.imports = search rules in
    λ _. subst (All without) same (subst (All without) (take_all c.imports.import-index items c.imports-test.false) c.imports.invariant)
