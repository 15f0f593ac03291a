use Rattle.std.proofs.Common.{◌≡◌, All, subst}
use Rattle.std.proofs.lemmas.List.{take_all}
use Rattle.std.proofs.lemmas.List.Elements.{All-more}
use Rattle.hm_syntax.specs.declared.ast.Import.{Import}
use Rattle.hm_build_messages.proofs.Called.{not_without}
use Rattle.hm_build_messages.proofs.explaining.import_called.Goals as goal

pub calls-preserved : goal.calls-preserved
calls-preserved c =
    let without = λ (n : Import). ¬ (n.name.text ≡ c.args.name.now) in
    All-more without c.args.imports.now c.calls.index c.index-imports-index.result c.calls-test.true c.calls.invariant
    (subst without c.index-imports-index.is (c.is_called.ensures.hasnt c.if-is_called.false))

pub unreachable-requires : goal.unreachable-requires
unreachable-requires c =
    let without = λ (n : Import). ¬ (n.name.text ≡ c.args.name.now) in
    not_without c.args.name.now c.args.imports.now (subst (All without) (take_all c.calls.index c.args.imports.now c.calls-test.false) c.calls.invariant) c.requires
