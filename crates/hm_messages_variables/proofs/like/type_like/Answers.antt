use Rattle.std.proofs.Common.{◌∙◌, sym}
use Rattle.hm_names.specs.Bindings.{Pair}
use Rattle.hm_messages_variables.specs.LikeTypes.{capitalized}
use Rattle.hm_messages_variables.proofs.Scoped.{found_here, passed}
use Rattle.hm_messages_variables.proofs.like.type_like.Goals as goal

pub returns-then-is_type_like : goal.returns-then-is_type_like
returns-then-is_type_like c =
    let p : Pair = c.binding-item.result in
    found_here (capitalized c.args.variable.now) c.args.bindings.now c.bindings.binding-index p c.text.result.now c.bindings-test.true c.binding-item.is
    (sym c.is_type_like.ensures ∙ c.if-is_type_like.true) c.text.ensures c.bindings.invariant

pub bindings-preserved : goal.bindings-preserved
bindings-preserved c =
    let p : Pair = c.binding-item.result in
    passed (capitalized c.args.variable.now) c.args.bindings.now c.bindings.binding-index p c.bindings-test.true c.binding-item.is
    (sym c.is_type_like.ensures ∙ c.if-is_type_like.false) c.bindings.invariant
