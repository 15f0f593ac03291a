use Rattle.std.proofs.Common.{sym, ap, ◌∙◌, map, bytes_eq}
use Rattle.hm_scope_resolve.proofs.NamesTwice.{is_this, none_yet, at_row, in_row}
use Rattle.hm_scope_resolve.proofs.repeats.is_among.Goals as goal

pub returns-then-eq : goal.returns-then-eq
returns-then-eq c =
    let row = c.args.names.now in
    let n = c.name-item.result in
    is_this (map (λ x. x.now) row) c.names.name-index n.now c.args.text.now (in_row row c.names.name-index c.names-test.true) (at_row row c.names.name-index n c.names-test.true c.name-item.is)
    (ap (λ t. bytes_eq t c.args.text.now) (sym c.as_str.ensures) ∙ (sym c.eq.ensures ∙ c.if-eq.true))

pub names-preserved : goal.names-preserved
names-preserved c =
    let row = c.args.names.now in
    let n = c.name-item.result in
    none_yet (map (λ x. x.now) row) c.names.name-index n.now c.args.text.now (in_row row c.names.name-index c.names-test.true) (at_row row c.names.name-index n c.names-test.true c.name-item.is)
    (ap (λ t. bytes_eq t c.args.text.now) (sym c.as_str.ensures) ∙ (sym c.eq.ensures ∙ c.if-eq.false)) c.names.invariant
