use Rattle.std.proofs.Common.{◌≡◌, ◌∙◌, refl, sym, ap, arith}
use Rattle.std.proofs.lemmas.List.Sums.{count_by-le-length}
use Rattle.std.specs.Vec.{vec_capacity}
use Rattle.hm_store.specs.Builds.{Build, state_of}
use Rattle.hm_store.specs.StoresInside.{build}
use Rattle.hm_store.specs.Objects.{is_claimed, reply_of}
use Rattle.hm_store.specs.declared.object.Claimed.TheVariants.{Job}
use Rattle.hm_store.proofs.Finishing.{done_is_settled}
use Rattle.hm_store.proofs.ReadySteps.{Takes, claim_ready, job_reply, reply_idle, same_heap, taken_within}
use Rattle.hm_store.proofs.Steps.{claim_step, reply_now, state_with}
use Rattle.hm_store.proofs.store.Store.claim.Goals as goal

pub take_least-requires : goal.take_least-requires
take_least-requires c = c.self.invariant.ready.heap.order

pub index_mut-requires : goal.index_mut-requires
index_mut-requires c =
    let e = c.in-Some.ensures in
    let takes : Takes c.self.inside.ready c.take_least.new.ready c.in-Some.number = record { order = e.order; len = e.len; capacity = e.capacity; least = e.least; each = e.each } in
    let s = c.self.inside in
    rw s.statuses.ok.0 (taken_within (build s).given s.statuses.items s.open_imports.items s.ready c.take_least.new.ready s.claimed c.in-Some.number c.self.invariant.ready takes)

-- no module is ready: what the heap has stays
pub invariant_of-self : goal.invariant_of-self
invariant_of-self c =
    let s = c.self.inside in
    let e = c.in_default.ensures in record {
      holds = c.self.invariant.holds;
      search_of = c.self.invariant.search_of;
      ready = same_heap (build s).given s.statuses.items s.open_imports.items s.ready c.take_least.new.ready s.claimed c.self.invariant.ready e.none.1.0 e.none.1.1 e.capacity e.order;
    }

pub returns-in_default-clause-reply : goal.returns-in_default-clause-reply
returns-in_default-clause-reply c =
    let s = c.self.inside in
    let idle = reply_idle (build s).given s.statuses.items s.open_imports.items s.ready s.claimed c.self.invariant.ready c.in_default.ensures.none.0 in
    reply_now (build s) c.args.self.now s.statuses.items s.stopped (vec_capacity s.journal) c.reply_without_job.result c.self.invariant.holds c.self.view_is c.if-self.false (idle ∙ sym c.reply_without_job.ensures)

pub returns-in_default-clause-done : goal.returns-in_default-clause-done
returns-in_default-clause-done c done going =
    let s = c.self.inside in
    let idle = reply_idle (build s).given s.statuses.items s.open_imports.items s.ready s.claimed c.self.invariant.ready c.in_default.ensures.none.0 in
    let reply = reply_now (build s) (build s) s.statuses.items s.stopped (vec_capacity s.journal) c.reply_without_job.result c.self.invariant.holds refl c.if-self.false (idle ∙ sym c.reply_without_job.ensures) in
    done_is_settled (build s) c.self.invariant.holds.legal (sym reply ∙ done) (ap (λ (x : Build). (state_of x).stopped) c.self.view_is ∙ going)

-- the least module that is ready is claimed
pub overflow_add-self : goal.overflow_add-self
overflow_add-self c =
    let s = c.self.inside in
    let most = count_by-le-length is_claimed s.statuses.items in
    let claims = c.self.invariant.ready.claims in
    omega (arith, most, claims, s.statuses.ok.0)

pub invariant_of-self-2 : goal.invariant_of-self-2
invariant_of-self-2 c =
    let s = c.self.inside in
    let g = (build s).given in
    let e = c.in-Some.ensures in
    let m = c.in-Some.number in
    let takes : Takes s.ready c.take_least.new.ready m = record { order = e.order; len = e.len; capacity = e.capacity; least = e.least; each = e.each } in
    let going : reply_of g (state_with s.statuses.items s.stopped) ≡ Job m = ap (λ v. reply_of g (state_with s.statuses.items v)) c.if-self.false ∙ job_reply g s.statuses.items s.open_imports.items s.ready c.take_least.new.ready s.claimed m c.self.invariant.ready takes in
    record {
      holds = rw (c.push_reserved.ensures.items, c.push_reserved.ensures.capacity) (claim_step (build s) s.statuses.items s.stopped _ c.args.worker m c.self.invariant.holds going);
      search_of = c.self.invariant.search_of;
      ready = claim_ready g s.statuses.items s.open_imports.items s.ready c.take_least.new.ready s.claimed m c.args.worker c.self.invariant.ready takes;
    }

pub returns-clause-reply : goal.returns-clause-reply
returns-clause-reply c =
    let s = c.self.inside in
    let e = c.in-Some.ensures in
    let m = c.in-Some.number in
    let takes : Takes s.ready c.take_least.new.ready m = record { order = e.order; len = e.len; capacity = e.capacity; least = e.least; each = e.each } in
    reply_now (build s) c.args.self.now s.statuses.items s.stopped (vec_capacity s.journal) (Job m) c.self.invariant.holds c.self.view_is c.if-self.false (job_reply (build s).given s.statuses.items s.open_imports.items s.ready c.take_least.new.ready s.claimed m c.self.invariant.ready takes)
