use Rattle.std.proofs.Common.{◌∙◌, sym, length}
use Rattle.std.specs.Prelude.{IfOk}
use Rattle.hm_store.specs.Records.{AddsAt}
use Rattle.hm_store.specs.declared.record.Act.TheVariants.{Publish}
use Rattle.hm_store_shared.proofs.Knowing.{publishes_of}
use Rattle.hm_store_shared.proofs.Publishing.{publication_of, still_shown_of}
use Rattle.hm_store_shared.proofs.Refusing.{claimed_fits, only_memory, publish_fits}
use Rattle.hm_store_shared.specs.Listings.{Settled}
use Rattle.hm_store_shared.specs.Passes.{calls_of, known_of, seen_of, worker_of}
use Rattle.hm_store_shared.proofs.shared.Locked.publish.Goals as goal

pub publish_one-reply-requires-clause-claimed : goal.publish_one-reply-requires-clause-claimed
publish_one-reply-requires-clause-claimed g c =
    let h = c.beside.ensures in
    let s = c.show_entries.ensures in
    λ is. rw (s.same, s.record.0)
    (claimed_fits _ _ c.args.self.now.listed.build c.args.self.now.listed.published (seen_of c.args.pass.now) (known_of c.args.pass.now) (worker_of c.args.pass.now) c.args.number c.args.offered.outcome h.legal h.listed h.build h.beside s.begins (c.requires.fits is) (c.requires.has is))

pub returns-clause-publication : goal.returns-clause-publication
returns-clause-publication g c =
    let s = c.show_entries.ensures in
    let e = c.publish_one-reply.ensures in
    let old = calls_of c.args.pass.now in
    let adds : IfOk c.publish_one-reply.result (λ _. AddsAt (length c.args.self.now.listed.build.journal) old (Publish c.args.number) (calls_of c.publish_one-reply.new.pass)) = rw (sym s.same, sym s.record.1) e.ok in
    let settles : Settled c.args.self.now.listed (worker_of c.args.pass.now) c.args.number c.args.offered.outcome c.publish_one-reply.new.self.listed c.publish_one-reply.result = rw (sym s.same, sym s.record.0) e.settles in
    publication_of c.args.self.now.listed c.publish_one-reply.new.self.listed (seen_of c.meet.new.pass) _ c.args.number c.args.offered.outcome old (calls_of c.publish_one-reply.new.pass) (calls_of c.meet.new.pass)
    c.publish_one-reply.result settles adds c.meet.ensures.record.1 c.meet.ensures.told

pub returns-clause-seen : goal.returns-clause-seen
returns-clause-seen g c = still_shown_of _ (seen_of c.meet.new.pass) c.args.number c.args.offered.outcome.verdict c.publish_one-reply.result c.requires.good c.meet.ensures.told c.publish_one-reply.ensures.published

pub returns-clause-answers : goal.returns-clause-answers
returns-clause-answers g c =
    let h = c.beside.ensures in
    let s = c.show_entries.ensures in
    let e = c.publish_one-reply.ensures in
    let settles : Settled c.args.self.now.listed (worker_of c.args.pass.now) c.args.number c.args.offered.outcome c.publish_one-reply.new.self.listed c.publish_one-reply.result = rw (sym s.same, sym s.record.0) e.settles in
    publishes_of _ _ c.args.self.now.listed c.publish_one-reply.new.self.listed _ _ _ h.legal h.build s.begins (c.meet.ensures.known ∙ e.known) c.args.number c.args.offered.outcome c.publish_one-reply.result settles

pub returns-clause-fits : goal.returns-clause-fits
returns-clause-fits g c =
    let h = c.beside.ensures in
    let s = c.show_entries.ensures in
    let e = c.publish_one-reply.ensures in
    let settles : Settled c.args.self.now.listed (worker_of c.args.pass.now) c.args.number c.args.offered.outcome c.publish_one-reply.new.self.listed c.publish_one-reply.result = rw (sym s.same, sym s.record.0) e.settles in
    λ of. publish_fits _ _ c.args.self.now.listed _ (seen_of c.args.pass.now) _ c.args.number c.args.offered.outcome c.publish_one-reply.result h.legal h.listed h.build h.beside settles of

pub returns-clause-memory : goal.returns-clause-memory
returns-clause-memory g c =
    let h = c.beside.ensures in
    let s = c.show_entries.ensures in
    let e = c.publish_one-reply.ensures in
    let settles : Settled c.args.self.now.listed (worker_of c.args.pass.now) c.args.number c.args.offered.outcome c.publish_one-reply.new.self.listed c.publish_one-reply.result = rw (sym s.same, sym s.record.0) e.settles in
    λ is. only_memory c.args.self.now.listed _ (worker_of c.args.pass.now) c.args.number c.args.offered.outcome c.publish_one-reply.result
    (claimed_fits _ _ c.args.self.now.listed.build c.args.self.now.listed.published (seen_of c.args.pass.now) (known_of c.args.pass.now) (worker_of c.args.pass.now) c.args.number c.args.offered.outcome h.legal h.listed h.build h.beside s.begins (c.requires.fits is) (c.requires.has is))
    settles
