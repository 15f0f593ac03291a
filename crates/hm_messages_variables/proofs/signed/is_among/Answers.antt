use Rattle.std.proofs.Common.{sym, ap, ◌∙◌, bytes_eq}
use Rattle.hm_syntax.specs.Names.{Identifier}
use Rattle.hm_scope_resolve.proofs.NamesTwice.{is_this, none_yet}
use Rattle.hm_messages_variables.proofs.signed.is_among.Goals as goal

pub returns-then-eq : goal.returns-then-eq
returns-then-eq c =
    let n : Identifier = c.name-item.result in
    is_this c.args.names.now c.names.name-index n c.args.text.now c.names-test.true c.name-item.is
    (ap (λ t. bytes_eq t c.args.text.now) (sym c.as_str.ensures) ∙ (sym c.eq.ensures ∙ c.if-eq.true))

pub names-preserved : goal.names-preserved
names-preserved c =
    let n : Identifier = c.name-item.result in
    none_yet c.args.names.now c.names.name-index n c.args.text.now c.names-test.true c.name-item.is
    (ap (λ t. bytes_eq t c.args.text.now) (sym c.as_str.ensures) ∙ (sym c.eq.ensures ∙ c.if-eq.false)) c.names.invariant
