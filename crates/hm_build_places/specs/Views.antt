-- What is known by the view of a build.
use Rattle.std.specs.Prelude.{ℕ, List, map}
use Rattle.hm_store.specs.Builds.{Build, set_of}
use Rattle.hm_store.specs.Settlements.{settlement}
use Rattle.hm_build_places.specs.Known.{Known}
use Rattle.hm_build_places.specs.declared.views.View.{View}

-- a build with the names and the texts of its sources, and the number of each module's source
abbrev pub known_in : Build → List (List ℕ) → List (List ℕ) → List ℕ → Known
known_in b files texts origins = record { set = set_of b; status = settlement b; files = files; texts = texts; origins = origins }

abbrev pub known_of : View → Known
known_of v = known_in v.store.now (map (λ n. n.items) v.names.now) (map (λ s. s.items) v.sources.now) v.origins.now
