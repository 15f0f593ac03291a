use Rattle.std.proofs.Common.{Bool, subst}
use Rattle.std.specs.Vec.{vec_capacity}
use Rattle.hm_store.specs.StoresInside.{Holds, build}
use Rattle.hm_store.proofs.Steps.{stop_step}
use Rattle.hm_store.proofs.store.Store.stop.Goals as goal

pub invariant_of-self : goal.invariant_of-self
invariant_of-self c =
    let now = subst (λ (v : Bool). Holds (build c.self.inside) c.self.inside.statuses.items v (vec_capacity c.self.inside.journal)) c.if-first.true c.self.invariant.holds in
    record {
      holds = rw (c.push_reserved.ensures.items, c.push_reserved.ensures.capacity) (stop_step (build c.self.inside) c.self.inside.statuses.items _ c.args.worker now);
      search_of = c.self.invariant.search_of;
      ready = c.self.invariant.ready;
    }
