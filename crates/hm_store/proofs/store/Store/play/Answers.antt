use Rattle.std.proofs.Common.{◌≡◌, List, [], get_or, length, set, sym, ap, ◌∙◌}
use Rattle.std.specs.Vec.{with_items}
use Rattle.std.proofs.lemmas.List.{with_items_is}
use Rattle.hm_store.specs.Builds.{Build}
use Rattle.hm_store.specs.Objects.{skip_all}
use Rattle.hm_store.specs.Plans.{dependents_of}
use Rattle.hm_store.specs.Reaching.{dependents_in}
use Rattle.hm_store.specs.declared.object.Status.{Status}
use Rattle.hm_store.specs.declared.object.Status.TheVariants.{Failed}
use Rattle.hm_store.proofs.Steps.{state_with}
use Rattle.hm_store.proofs.store.Store.play.Goals as goal

pub skip_dependents-requires : goal.skip_dependents-requires
skip_dependents-requires c = c.requires ∙ ap (λ (x : Build). length x.given.imports) (sym c.self.view_is)

pub returns-in-Fail-clause-state : goal.returns-in-Fail-clause-state
returns-in-Fail-clause-state c =
    let old = c.args.replay.now in
    let m = c.in-Fail.number in
    let rest = get_or (dependents_in c.self.inside.plan) m [] in
    let failed = set old.statuses.items m Failed in
    let first = with_items old.statuses c.put-in-Fail.new.statuses in
    let put_len : length c.put-in-Fail.new.statuses ≡ old.statuses.len = c.put-in-Fail.auto.statuses ∙ c.deref_mut-in-Fail.ensures.len in
    let put_is : first.items ≡ failed = with_items_is old.statuses c.put-in-Fail.new.statuses put_len ∙ (c.put-in-Fail.ensures ∙ ap (λ (xs : List Status). set xs m Failed) c.deref_mut-in-Fail.ensures.value) in
    let long : length c.skip_dependents.new.statuses ≡ first.len = c.skip_dependents.auto.statuses ∙ c.deref_mut-in-Fail-2.ensures.len in
    let lists : rest ≡ dependents_of c.args.self.now.given m = ap (λ (x : Build). dependents_of x.given m) c.self.view_is in
    let done : (with_items first c.skip_dependents.new.statuses).items ≡ skip_all failed (dependents_of c.args.self.now.given m) =
    with_items_is first c.skip_dependents.new.statuses long ∙ (c.skip_dependents.ensures.skipped ∙ (ap (λ (xs : List Status). skip_all xs rest) (c.deref_mut-in-Fail-2.ensures.value ∙ put_is) ∙ ap (skip_all failed) lists)) in
    rw c.in-Fail.is (ap (λ (xs : List Status). state_with xs old.stopped) done)
