use Rattle.std.proofs.Common.{rules, ◌≡◌, Some, ◌∙◌}
use Rattle.hm_store.specs.Builds.{after_claim, state_of}
use Rattle.hm_store.specs.Objects.{reply_of}
use Rattle.hm_store.specs.Records.{replied}
use Rattle.hm_store_shared.specs.Listings.{Listing}
use Rattle.hm_store_shared.specs.Passes.{worker_of}
use Rattle.hm_store_shared.proofs.JobImports.{still_imports}
use Rattle.hm_store_shared.proofs.Knowing.{claims_of}
use Rattle.hm_store_shared.proofs.shared.Locked.claim.Goals as goal

pub returns-clause-imports : goal.returns-clause-imports
returns-clause-imports g c = still_imports _ c.in_ok-turn.turn _ _ c.meet.ensures.told c.in_ok-turn.ensures.imports

pub returns-clause-claims : goal.returns-clause-claims
returns-clause-claims g c =
    let h = c.beside.ensures in
    let l : Listing = c.args.self.now.listed in
    let t = c.in_ok-turn.turn in
    let e = c.in_ok-turn.ensures in
    let reply : replied (Some t) ≡ reply_of l.build.given (state_of l.build) = search rules in
    let step : c.claim_next.new.self.listed ≡ record { build = after_claim l.build (worker_of c.args.pass.now) (replied (Some t)); published = l.published } = search rules in
    claims_of _ _ l c.claim_next.new.self.listed _ _ _ h.legal h.build e.begins (c.meet.ensures.known ∙ e.known) t reply step
