use Rattle.std.proofs.Common.{rules, ◌≡◌, sym, subst, Some}
use Rattle.hm_store.specs.Builds.{IsLegal, state_of}
use Rattle.hm_store_shared.specs.Listings.{HasImports, Listing}
use Rattle.hm_store.specs.Objects.{reply_of}
use Rattle.hm_store.specs.Records.{replied}
use Rattle.hm_store.specs.declared.object.Turn.TheVariants.{Job}
use Rattle.hm_store_shared.proofs.JobImports.{turn_imports, turn_within}
use Rattle.hm_store_shared.proofs.shared.Locked.claim_next.Goals as goal

pub returns-in-Job-clause-imports : goal.returns-in-Job-clause-imports
returns-in-Job-clause-imports g c =
    let l = c.args.self.now.listed in
    let legal : IsLegal l.build = subst IsLegal c.store.ensures.store c.entries-entries.ensures.legal in
    let reply : replied (Some (Job c.in-Job.number)) ≡ reply_of l.build.given (state_of l.build) = search rules in
    let got = turn_imports _ l.build l.published (Job c.in-Job.number) legal c.store.ensures.listed c.store.ensures.build.imports reply in
    subst (λ (x : Listing). HasImports _ (Job c.in-Job.number) x.published) (sym c.claim.ensures.step) got

pub returns-in-Job-clause-within : goal.returns-in-Job-clause-within
returns-in-Job-clause-within g c =
    let l = c.args.self.now.listed in
    let legal : IsLegal l.build = subst IsLegal c.store.ensures.store c.entries-entries.ensures.legal in
    let reply : replied (Some (Job c.in-Job.number)) ≡ reply_of l.build.given (state_of l.build) = search rules in
    turn_within _ _ l.build (Job c.in-Job.number) legal c.store.ensures.build reply
