-- Worked examples of lists of publications.
use Rattle.std.specs.Prelude.{◌≡◌, ◌≢◌, ℕ, List, [], ◌∷◌, Option, Some, Ok, Err, slice_get}
use Rattle.hm_types.specs.Interfaces.{Exports as Interface}
use Rattle.hm_syntax.specs.declared.ast.Module.{Module}
use Rattle.hm_verdicts.specs.Outcomes.{Checked}
use Rattle.hm_store_published.specs.declared.publication.Publication.{Publication}
use Rattle.hm_store_published.specs.Worked.{entry, plan}
use Rattle.hm_store.specs.Worked.{begun, done, journal_by}
use Rattle.hm_store.specs.declared.object.Entry.TheVariants.{Claim, Publish, Stop}
use Rattle.hm_store.specs.declared.object.Refusal.TheVariants.{NotYours, Memory}
use Rattle.hm_store.specs.declared.object.Turn.TheVariants.{Job, Done}
use Rattle.hm_store_shared.specs.Knowing.{Begins, HasClaimed}
use Rattle.hm_store_shared.specs.Spending.{calls_in}
use Rattle.hm_store_shared.specs.Listings.{ArePublications, HasImports, HasPublication, IsListed, IsOfSeen, IsWithin, Listing, Settled, published_after, publications_in}

abbrev pub published_as : ℕ → ℕ → Checked → Publication
published_as number place c = record { number = number; place = place; outcome = c }

-- the list of a build in which entry 1 published module 1, and entry 3 module 0. No list with other numbers, places or outcomes is that of the build
pub record ListingRow : Type 0 where
  pub numbers : publications_in 0 (journal_by 0) ≡ (1, 1) ∷ (0, 3) ∷ []
  pub counted_on : publications_in 5 (Publish 0 1 ∷ []) ≡ (1, 5) ∷ []
  pub listed : (modules : List Module) (c d : Checked) → IsListed (done 0 modules (Some d ∷ Some c ∷ [])) (published_as 1 1 c ∷ published_as 0 3 d ∷ [])
  pub cut : (modules : List Module) (kept : List (Option Checked)) (c : Checked) → ¬ (ArePublications (done 0 modules kept) (published_as 1 1 c ∷ []))
  pub moved : (modules : List Module) (kept : List (Option Checked)) (c d : Checked) → ¬ (ArePublications (done 0 modules kept) (published_as 1 0 c ∷ published_as 0 3 d ∷ []))

-- a worker that claimed module 0, which imports module 1, has seen the publication of module 1. A worker that claimed module 1 may have seen none
pub record ClaimRow : Type 0 where
  pub imported : (b : Module) (g : Interface) → HasImports plan (Job 0) (entry 1 1 b [] g ∷ [])
  pub unseen : ¬ (HasImports plan (Job 0) [])
  pub none_needed : HasImports plan (Job 1) []
  pub nothing_left : HasImports plan Done []
  pub inside : IsWithin 2 (Job 1)
  pub outside : ¬ (IsWithin 2 (Job 2))

-- worker 0 has claimed module 1, and nothing is published
abbrev pub first_claim : List Module → List (Option Checked) → Listing
first_claim modules kept = record { build = begun modules kept; published = [] }

-- its outcome is published, or memory runs out and nothing changes. That of worker 1 is refused, and nothing changes
pub record PublishRow : Type 0 where
  pub published : (modules : List Module) (kept : List (Option Checked)) (c : Checked) → slice_get modules 1 ≡ Some c.«module» → c.imports ≡ [] → Settled (first_claim modules kept) 0 1 c (published_after (first_claim modules kept) 0 1 c) (Ok tt)
  pub listed : (modules : List Module) (kept : List (Option Checked)) (c : Checked) → HasPublication (published_after (first_claim modules kept) 0 1 c).published 1 1 c
  pub without_memory : (modules : List Module) (kept : List (Option Checked)) (c : Checked) → slice_get modules 1 ≡ Some c.«module» → c.imports ≡ [] → Settled (first_claim modules kept) 0 1 c (first_claim modules kept) (Err (Memory, c))
  pub not_yours : (modules : List Module) (kept : List (Option Checked)) (c : Checked) → Settled (first_claim modules kept) 1 1 c (first_claim modules kept) (Err (NotYours, c))
  pub unclaimed : (modules : List Module) (kept : List (Option Checked)) (c : Checked) (after : Listing) → ¬ (Settled (first_claim modules kept) 1 1 c after (Ok tt))

-- an outcome of module 0 fits the list if it is for the published interface of module 1. It doesn't for another interface, or if the list has none
pub record SeenRow : Type 0 where
  pub fits : (a b : Module) (g : Interface) (c : Checked) → c.«module» ≡ a → c.imports ≡ g ∷ [] → IsOfSeen (a ∷ b ∷ []) plan (entry 1 1 b [] g ∷ []) 0 c
  pub other : (a b : Module) (g h : Interface) (c : Checked) → c.imports ≡ h ∷ [] → g ≢ h → ¬ (IsOfSeen (a ∷ b ∷ []) plan (entry 1 1 b [] g ∷ []) 0 c)
  pub unseen : (a b : Module) (g : Interface) (c : Checked) → c.imports ≡ g ∷ [] → ¬ (IsOfSeen (a ∷ b ∷ []) plan [] 0 c)

-- worker 1 has claimed module 0, and no longer after its publication. Worker 2 has claimed another module
pub record HeldRow : Type 0 where
  pub claimed : HasClaimed 1 (Claim 2 3 ∷ Claim 1 0 ∷ []) 0
  pub ended : ¬ (HasClaimed 1 (Claim 2 3 ∷ Claim 1 0 ∷ Publish 1 0 ∷ []) 0)
  pub another : ¬ (HasClaimed 2 (Claim 2 3 ∷ Claim 1 0 ∷ []) 0)

-- entries of other workers may follow what worker 1 had seen. An entry of its own may not
pub record BeginsRow : Type 0 where
  pub others : Begins 1 (Claim 1 0 ∷ []) (Claim 1 0 ∷ Claim 2 1 ∷ [])
  pub own : ¬ (Begins 1 (Claim 1 0 ∷ []) (Claim 1 0 ∷ Stop 1 ∷ []))
  pub shorter : ¬ (Begins 1 (Claim 1 0 ∷ []) [])

-- a claim of module 0, which imports module 1, takes three calls, and one of module 1 two. A publication takes none of its own
pub record CallsRow : Type 0 where
  pub importing : calls_in plan (Claim 1 0 ∷ Publish 1 0 ∷ []) ≡ 3
  pub both : calls_in plan (Claim 1 1 ∷ Publish 1 1 ∷ Claim 1 0 ∷ []) ≡ 5
  pub more : ¬ (calls_in plan (Claim 1 0 ∷ []) ≡ 2)
