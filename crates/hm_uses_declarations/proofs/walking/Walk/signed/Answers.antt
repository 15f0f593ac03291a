use Rattle.std.proofs.Common.{◌≡◌, ap, refl, ◌∙◌}
use Rattle.std.specs.Prelude.{false}
use Rattle.hm_uses.specs.Found.{binder_use, signed_uses}
use Rattle.hm_uses_declarations.specs.Walking.{Walking, home_of}
use Rattle.hm_uses_declarations.proofs.Steps.{row_more}
use Rattle.hm_uses_declarations.proofs.walking.Walk.signed.Goals as goal

pub row-preserved : goal.row-preserved
row-preserved c = record {
  state = row_more (λ k gs n. binder_use k (home_of gs) false n) (λ k gs ns. signed_uses k (home_of gs) ns) (λ k gs x rest. refl) c.args.names.now c.row.name-index c.name-item.result c.row.self c.binder.new.self c.args.self.now c.row-test.true c.name-item.is c.in_ok-binder.ensures c.row.invariant.known c.row.invariant.groups c.row.invariant.state;
  known = ap (λ (w : Walking). w.known) c.in_ok-binder.ensures ∙ c.row.invariant.known;
  groups = ap (λ (w : Walking). w.groups) c.in_ok-binder.ensures ∙ c.row.invariant.groups;
}
