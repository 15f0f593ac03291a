use Rattle.std.proofs.Common.{◌≡◌, ◌-◌, List, length, set, None, subst, sym, ap, ◌∙◌}
use Rattle.std.specs.Vec.{with_item, with_items, vec_capacity}
use Rattle.std.proofs.lemmas.List.{length-set, with_items_is}
use Rattle.hm_graph_components.specs.Digraph.{Reaches}
use Rattle.hm_store.specs.Plans.{dependents_of}
use Rattle.hm_store.specs.Objects.{skip_all}
use Rattle.hm_store.specs.Builds.{Build, Refuses, status_by, with_kept}
use Rattle.hm_store.specs.Readiness.{KeepsReady}
use Rattle.hm_store.specs.StoresInside.{Holds, build}
use Rattle.hm_store.specs.declared.object.Status.{Status}
use Rattle.hm_store.specs.declared.object.Status.TheVariants.{Failed}
use Rattle.hm_store.specs.declared.object.Entry.TheVariants.{Fail}
use Rattle.hm_store.proofs.Kept.{faulty_status}
use Rattle.hm_store.proofs.Skipping.{length-skips}
use Rattle.hm_store.proofs.Following.{IsFollowing}
use Rattle.hm_store.proofs.ReadySteps.{fail_ready}
use Rattle.hm_store.proofs.Steps.{fail_step, holds_follows, skipped_by_failure, to_keep}
use Rattle.hm_store.proofs.store.Store.fail.Goals as goal

pub invariant_of-self : goal.invariant_of-self
invariant_of-self c =
    let b = build c.self.inside in
    let ss = c.self.inside.statuses.items in
    let m = c.args.number in
    let accepted = subst (λ (x : Build). Refuses x c.args.worker m c.args.outcome None) (sym c.self.view_is) c.in-None.ensures in
    let kept = to_keep b ss c.self.inside.stopped _ c.args.worker m c.args.outcome c.self.invariant.holds accepted c.verdict.ensures.right in
    let status : c.status_by.result ≡ Failed = c.status_by.ensures ∙ (ap status_by c.verdict.ensures.value ∙ faulty_status c.args.outcome.verdict c.requires) in
    let skipped : c.skip_dependents.new.statuses ≡ skip_all (set ss m c.status_by.result) (dependents_of b.given m) =
    c.skip_dependents.ensures.skipped ∙ ap (λ (xs : List Status). skip_all xs (dependents_of b.given m)) c.deref_mut.ensures.value in
    let v = with_item c.self.inside.statuses m c.status_by.result in
    let count : length c.skip_dependents.new.statuses ≡ v.len =
    ap length skipped ∙ (length-skips (dependents_of b.given m) (set ss m c.status_by.result) ∙ (length-set ss m c.status_by.result ∙ sym c.self.inside.statuses.ok.0)) in
    let back : (with_items v c.skip_dependents.new.statuses).items ≡ skip_all (set ss m Failed) (dependents_of b.given m) =
    with_items_is v c.skip_dependents.new.statuses count ∙ (skipped ∙ ap (λ (s : Status). skip_all (set ss m s) (dependents_of b.given m)) status) in
    let follows : IsFollowing b.given ss = holds_follows b ss c.self.inside.stopped _ c.self.invariant.holds in
    let ready = fail_ready b.given ss c.self.inside.open_imports.items c.self.inside.ready c.self.inside.claimed m c.args.worker c.self.invariant.ready kept.claimed c.self.invariant.holds.legal.dependents follows in
    record {
      holds = rw (c.push_reserved.ensures.items, c.push_reserved.ensures.capacity)
          (subst (λ (xs : List Status). Holds (with_kept b m c.args.outcome (Fail c.args.worker m)) xs c.self.inside.stopped (vec_capacity c.self.inside.journal)) (sym back)
          (fail_step b ss c.self.inside.stopped _ c.args.worker m c.args.outcome c.self.invariant.holds kept c.requires));
      search_of = c.skip_dependents.ensures.len ∙ c.self.invariant.search_of;
      ready = subst (λ (xs : List Status). KeepsReady b.given xs c.self.inside.open_imports.items c.self.inside.ready (c.self.inside.claimed - 1)) (sym back) ready;
    }

pub returns-in-None-clause-skipped : goal.returns-in-None-clause-skipped
returns-in-None-clause-skipped c k path =
    let b = build c.self.inside in
    let m = c.args.number in
    let accepted = subst (λ (x : Build). Refuses x c.args.worker m c.args.outcome None) (sym c.self.view_is) c.in-None.ensures in
    rw c.push_reserved.ensures.items
    (skipped_by_failure b c.args.worker m c.args.outcome c.self.invariant.holds.legal accepted k (subst (λ (x : Build). Reaches x.given.imports k m) (sym c.self.view_is) path))
