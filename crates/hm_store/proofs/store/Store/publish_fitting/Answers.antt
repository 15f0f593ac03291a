use Rattle.std.proofs.Common.{◌≡◌, List, length, set, None, subst, sym, ap, ◌∙◌}
use Rattle.std.specs.Vec.{with_items}
use Rattle.std.proofs.lemmas.List.{with_items_is}
use Rattle.hm_store.specs.Builds.{Build, Refuses, status_by}
use Rattle.hm_store.specs.Readiness.{IsHeapOf, is_free}
use Rattle.hm_store.specs.StoresInside.{build}
use Rattle.hm_store.specs.declared.object.Status.{Status}
use Rattle.hm_store.specs.declared.object.Status.TheVariants.{Published}
use Rattle.hm_store.proofs.Finishing.{imports_once}
use Rattle.hm_store.proofs.Kept.{good_status}
use Rattle.hm_store.proofs.ReadySteps.{enough_counted, free_published, publish_ready}
use Rattle.hm_store.proofs.Steps.{publish_step, to_keep}
use Rattle.hm_store.proofs.store.Store.publish_fitting.Goals as goal

pub close_imports-requires-clause-counts : goal.close_imports-requires-clause-counts
close_imports-requires-clause-counts c =
    let s = c.self.inside in
    let b = build s in
    let m = c.args.number in
    let accepted = subst (λ (x : Build). Refuses x c.args.worker m c.args.outcome None) (sym c.self.view_is) c.requires.fits in
    let kept = to_keep b s.statuses.items s.stopped _ c.args.worker m c.args.outcome c.self.invariant.holds accepted c.verdict.ensures.right in
    rw c.deref_mut.ensures.value
    (enough_counted b.given s.statuses.items s.open_imports.items s.ready s.claimed m c.args.worker c.importers-importers.result.now c.self.invariant.ready kept.claimed (imports_once b c.self.invariant.holds.legal) c.importers-importers.ensures)

pub close_imports-requires-clause-heap : goal.close_imports-requires-clause-heap
close_imports-requires-clause-heap c =
    let s = c.self.inside in
    let b = build s in
    let m = c.args.number in
    let accepted = subst (λ (x : Build). Refuses x c.args.worker m c.args.outcome None) (sym c.self.view_is) c.requires.fits in
    let kept = to_keep b s.statuses.items s.stopped _ c.args.worker m c.args.outcome c.self.invariant.holds accepted c.verdict.ensures.right in
    let status : c.status_by.result ≡ Published = c.status_by.ensures ∙ (ap status_by c.verdict.ensures.value ∙ good_status c.args.outcome.verdict c.requires.good) in
    rw (c.deref.ensures.value, c.deref_mut.ensures.value, status)
    (free_published b.given s.statuses.items s.open_imports.items s.ready s.claimed m c.args.worker c.importers-importers.result.now c.self.invariant.ready kept.claimed (imports_once b c.self.invariant.holds.legal) c.importers-importers.ensures)

pub invariant_of-self : goal.invariant_of-self
invariant_of-self c =
    let s = c.self.inside in
    let b = build s in
    let ss = s.statuses.items in
    let m = c.args.number in
    let counts = c.close_imports.new.counts in
    let heap = c.close_imports.new.ready in
    let accepted = subst (λ (x : Build). Refuses x c.args.worker m c.args.outcome None) (sym c.self.view_is) c.requires.fits in
    let kept = to_keep b ss s.stopped _ c.args.worker m c.args.outcome c.self.invariant.holds accepted c.verdict.ensures.right in
    let status : c.status_by.result ≡ Published = c.status_by.ensures ∙ (ap status_by c.verdict.ensures.value ∙ good_status c.args.outcome.verdict c.requires.good) in
    let len : length counts ≡ length s.open_imports.items = c.close_imports.ensures.len ∙ ap length c.deref_mut.ensures.value in
    let back : (with_items s.open_imports counts).items ≡ counts = with_items_is s.open_imports counts (len ∙ sym s.open_imports.ok.0) in
    let free : IsHeapOf (is_free (set ss m Published) counts) heap = subst (λ (xs : List Status). IsHeapOf (is_free xs counts) heap) (c.deref.ensures.value ∙ ap (set ss m) status) c.close_imports.ensures.heap in
    let ready = publish_ready b.given ss s.open_imports.items s.ready s.claimed m c.args.worker c.importers-importers.result.now c.self.invariant.ready kept.claimed (imports_once b c.self.invariant.holds.legal) c.importers-importers.ensures
    counts heap len (λ k. rw c.deref_mut.ensures.value at (c.close_imports.ensures.counts k)) free c.close_imports.ensures.room in
    record {
      holds = rw (status, c.push_reserved.ensures.items, c.push_reserved.ensures.capacity) (publish_step b ss s.stopped _ c.args.worker m c.args.outcome c.self.invariant.holds kept c.requires.good);
      search_of = c.self.invariant.search_of;
      ready = rw (status, back) ready;
    }
