-- What is at a place of a checked set.
use Rattle.std.specs.Prelude.{◌≡◌, ℕ, ◌<◌, ◌⊎◌, Contains, IfSome, List, Vec, length, map, slice_index_or, string_bytes}
use Rattle.std.specs.declared.alloc.Global.{Global}
use Rattle.hm_build_place_texts.specs.declared.texts.PlaceFormat.TheVariants.{Prose}
use Rattle.hm_build_places.specs.Answers.{IsPlaceAnswer}
use Rattle.hm_build_places.specs.Views.{known_in}
use Rattle.hm_build_places.specs.declared.answers.PlaceQuestion.{PlaceQuestion}
use Rattle.hm_run_sources.specs.ModuleCounts.{AreOrigins}
use Rattle.hm_run_sources.specs.declared.answers.Answer.{Answer}
use Rattle.hm_run_sources.specs.declared.status.Status.{Status}
use Rattle.hm_run_sources.specs.declared.status.Status.TheVariants.{Faulty, Good}
use Rattle.hm_service_messages.specs.Spots.{HasBoundLine}
use Rattle.hm_store.specs.Builds.{Build}
use Rattle.hm_service_places.specs.Names.{names_of}
use Rattle.hm_service_places.specs.declared.checked.Checked.{Checked}
use Rattle.hm_service_places.specs.declared.places.AtPlace.{AtPlace}

-- the text and the status for the place of a question about a build of sources. `counts` has the number of modules of each. No public clause names this
abbrev pub IsAnsweredAt : Build → List ℕ → List (Vec ℕ Global) → PlaceQuestion → Answer → Type 0
IsAnsweredAt b counts sources q a =
    (origins : List ℕ) × (AreOrigins counts origins × IsPlaceAnswer (known_in b (map (λ n. n.items) q.names.items) (map (λ s. s.items) sources) origins) q.format q.source q.line q.column a.status (string_bytes a.text))

-- the status and the text of a run for a place of the source with this index in the checked part. The sources are named by their numbers
abbrev pub IsAskedAt : Checked → ℕ → ℕ → ℕ → Status → List ℕ → Type 0
IsAskedAt c index line column status text =
    (origins : List ℕ) × (AreOrigins c.build.counts.items origins × IsPlaceAnswer (known_in c.build.store (names_of c.part.items) (map (λ s. s.items) c.texts.items) origins) Prose index line column status text)

-- the source is the one with this index in the checked part
pub record IsIndexOf (c : Checked) (source index : ℕ) : Type 0 where
  pub within : index < length c.part.items
  pub is : slice_index_or c.part.items index 0 ≡ source

-- a run for the place has this text, and a place that is named is in it
pub record IsNameAt (c : Checked) (source line column : ℕ) (a : AtPlace) : Type 0 where
  pub index : ℕ
  pub at : IsIndexOf c source index
  pub asked : IsAskedAt c index line column Good (string_bytes a.text)
  pub bound : IfSome a.bound (λ b. HasBoundLine b (string_bytes a.text))

-- the source isn't checked, or a run for the place finds no name
abbrev pub HasNoName : Checked → ℕ → ℕ → ℕ → Type 0
HasNoName c source line column = (¬ (Contains c.part.items source)) ⊎ ((index : ℕ) × ((text : List ℕ) × (IsIndexOf c source index × IsAskedAt c index line column Faulty text)))
