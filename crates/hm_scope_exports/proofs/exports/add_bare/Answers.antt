use Rattle.std.proofs.Common.{◌≡◌, ◌++◌, ◌∷◌, [], ◌∙◌, None, ap}
use Rattle.hm_names.specs.Bindings.{Pair}
use Rattle.hm_names.proofs.AddedPairs.{adds_where, adds_where_not, adds_push}
use Rattle.hm_scope_export_items.proofs.BareSets.{qualified, unqualified}
use Rattle.hm_scope_exports.proofs.exports.add_bare.Goals as goal

pub returns : goal.returns
returns c =
    let pair : Pair = c.args.pair.now in
    let bare = unqualified c.qualifier.result pair.qualifier c.is_some.result c.qualifier.ensures c.is_some.ensures c.if-is_some.false in
    adds_where c.args.out.now.items c.push.new.self.items (pair.qualifier ≡ None) (λ p. pair ≡ p) bare
    (adds_push c.args.out.now.items c.push.new.self.items pair (c.in_ok-push.ensures.items ∙ ap (λ (x : Pair). c.args.out.now.items ++ x ∷ []) c.copy_of.ensures))

pub returns-then-is_some : goal.returns-then-is_some
returns-then-is_some c =
    let pair : Pair = c.args.pair.now in
    adds_where_not c.args.out.now.items (pair.qualifier ≡ None) (λ p. pair ≡ p) (qualified c.qualifier.result pair.qualifier c.is_some.result c.qualifier.ensures c.is_some.ensures c.if-is_some.true)
