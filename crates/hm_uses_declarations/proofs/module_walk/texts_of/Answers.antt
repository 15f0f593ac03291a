use Rattle.std.proofs.Common.{◌∙◌}
use Rattle.hm_uses_declarations.proofs.DeclaredTexts.{texts_more}
use Rattle.hm_uses_declarations.proofs.module_walk.texts_of.Goals as goal

pub names-preserved : goal.names-preserved
names-preserved c = λ x. let e = c.as_str.ensures in let i = c.in_ok-insert.ensures.texts in
    texts_more c.args.names.now c.names.name-index c.name-item.result c.names.set c.insert.new.self x c.names-test.true c.name-item.is (rw e at i) ∙ c.names.invariant x
