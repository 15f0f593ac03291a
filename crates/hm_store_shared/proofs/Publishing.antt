-- What a publication that is accepted leaves with its worker.
use Rattle.std.proofs.Common.{◌≡◌, ℕ, List, length, Result, Ok, Err, IfOk, ◌∙◌, subst}
use mathlib.Core.List.{IsPrefix}
use Rattle.hm_verdicts.specs.ModuleVerdicts.{Verdict}
use Rattle.hm_verdicts.specs.Outcomes.{Checked, IsGood}
use Rattle.hm_store_published.specs.declared.publication.Publication.{Publication}
use Rattle.hm_store_published.specs.Publications.{interface_in, interface_of}
use Rattle.hm_store.specs.Records.{AddsAt}
use Rattle.hm_store.specs.declared.object.Refusal.{Refusal}
use Rattle.hm_store.specs.declared.record.Act.TheVariants.{Publish}
use Rattle.hm_store.specs.declared.record.Call.{Call}
use Rattle.hm_store_shared.specs.Listings.{HasPublication, Listing, Settled}
use Rattle.hm_store_shared.proofs.Listing.{has_last, publication, still_shown}

pub publication_of : (l l' : Listing) (ps : List Publication) (w m : ℕ) (c : Checked) (old mid new : List Call) (r : Result (Unit {0}) (Refusal × Checked)) → Settled l w m c l' r
    → IfOk r (λ _. AddsAt (length l.build.journal) old (Publish m) mid) → new ≡ mid → IsPrefix l'.published ps
    → IfOk r (λ _. (place : ℕ) × AddsAt place old (Publish m) new × HasPublication ps m place c)
publication_of l l' ps w m c old mid new (Ok u) settled adds same told = (
  length l.build.journal,
  same ∙ adds,
  has_last l.published ps (publication m (length l.build.journal) c) (subst (λ (x : Listing). IsPrefix x.published ps) settled.1 told),
)
publication_of l l' ps w m c old mid new (Err r) settled adds same told = tt

pub still_shown_of : (ps qs : List Publication) (m : ℕ) (v : Verdict) (r : Result (Unit {0}) (Refusal × Checked)) → IsGood v → IsPrefix ps qs → IfOk r (λ _. interface_in ps m ≡ interface_of v)
    → IfOk r (λ _. interface_in qs m ≡ interface_of v)
still_shown_of ps qs m v (Ok u) good more is = still_shown ps qs m v good more is
still_shown_of ps qs m v (Err r) good more is = tt
