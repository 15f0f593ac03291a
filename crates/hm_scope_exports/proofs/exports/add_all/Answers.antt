use Rattle.std.proofs.Common.{◌≡◌, ◌∙◌, ◌++◌, ◌∷◌, [], sym, ap, subst}
use Rattle.hm_names.specs.Bindings.{Pair}
use Rattle.hm_scope_tables.specs.Tables.{IsTable}
use Rattle.hm_scope_exports.proofs.ListedExports.{more_of}
use Rattle.hm_scope_exports.proofs.exports.add_all.Goals as goal

pub loop-pair-preserved : goal.loop-pair-preserved
loop-pair-preserved c =
    let p : Pair = c.pair-item.result in
    let pushed : c.push.new.self.items ≡ c.loop-pair.given.items ++ p ∷ [] = c.in_ok-push.ensures.items ∙ ap (λ (x : Pair). c.loop-pair.given.items ++ x ∷ []) c.copy_of.ensures in (
      more_of c.args.given.now.items c.loop-pair.given.items c.push.new.self.items c.args.out.now c.loop-pair.pair-index p c.loop-pair-test.true c.pair-item.is c.loop-pair.invariant.0 pushed,
      λ table. subst (λ l. IsTable l c.note.new.table) (sym pushed) (c.in_ok-note.ensures _ (c.loop-pair.invariant.1 table)),
    )
