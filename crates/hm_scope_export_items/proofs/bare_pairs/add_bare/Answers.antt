use Rattle.std.proofs.Common.{◌≡◌, None, subst}
use Rattle.hm_names.specs.Bindings.{Pair, Adds}
use Rattle.hm_names.proofs.AddedPairs.{adds_where, adds_where_not}
use Rattle.hm_scope_export_items.proofs.BareSets.{is_bare, qualified, unqualified}
use Rattle.hm_scope_export_items.proofs.bare_pairs.add_bare.Goals as goal

pub returns : goal.returns
returns c =
    let pair : Pair = c.args.pair.now in
    let bare = unqualified c.qualifier.result pair.qualifier c.is_some.result c.qualifier.ensures c.is_some.ensures c.if-is_some.false in
    adds_where c.args.bare.now c.insert.new.self (pair.qualifier ≡ None) (λ p. pair ≡ p) bare
    (subst (λ (q : Pair). Adds c.args.bare.now c.insert.new.self (λ p. q ≡ p)) (is_bare pair bare) c.in_ok-insert.ensures)

pub returns-then-is_some : goal.returns-then-is_some
returns-then-is_some c =
    let pair : Pair = c.args.pair.now in
    adds_where_not c.args.bare.now (pair.qualifier ≡ None) (λ p. pair ≡ p) (qualified c.qualifier.result pair.qualifier c.is_some.result c.qualifier.ensures c.is_some.ensures c.if-is_some.true)
