-- When a check has all names of a set, when another one is as good, and which set has given texts.
use Rattle.std.specs.Prelude.{◌≡◌, ◌↔◌, ℕ, ◌<◌, All, List, [], ◌∷◌, length, map, true}
use Rattle.std.specs.List.{flat_map}
use Rattle.hm_messages_json.specs.declared.message.Level.{Level}
use Rattle.hm_messages_json.specs.declared.message.Level.TheVariants.{Error, Note}
use Rattle.hm_service_messages.specs.declared.diagnostic.Diagnostic.{Diagnostic}
use Rattle.hm_service_places.specs.declared.checked.Checked.{Checked}
use Rattle.hm_service_sources.specs.HeldSets.{AreAll, standing_of, texts_of}
use Rattle.hm_service_sources.specs.declared.held.HeldSource.{HeldSource}
use Rattle.hm_store.specs.Builds.{Build, state_of}
use Rattle.hm_store.specs.Objects.{status_at}
use Rattle.hm_store.specs.declared.object.Status.TheVariants.{Published}

-- the check is of sources with these texts, leaves none out, and skips no module
pub record IsWhole (texts : List (List ℕ)) (c : Checked) : Type 0 where
  pub part : AreAll (length texts) c.part.items
  pub texts_are : map (λ s. s.items) c.texts.items ≡ texts
  pub known : c.told.skipped ≡ 0

-- the module with this number is good
abbrev pub IsGood : Build → ℕ → Type 0
IsGood b i = status_at (state_of b).statuses i ≡ Published

-- a source, if something in it is an error
abbrev pub error_in : Level → ℕ → List ℕ
error_in Error source = source ∷ []
error_in Note source = []

-- the source of a diagnostic that is an error
abbrev pub error_source : Diagnostic → List ℕ
error_source d = error_in d.level d.source

-- the second check is of the same sources and has as many modules, of which the same are good; and each source has as many errors
pub record IsAsGood (c d : Checked) : Type 0 where
  pub part : d.part.items ≡ c.part.items
  pub modules : length d.build.store.modules ≡ length c.build.store.modules
  pub good : (i : ℕ) → i < length c.build.store.modules → IsGood c.build.store i ↔ IsGood d.build.store i
  pub skipped : d.told.skipped ≡ c.told.skipped
  pub errors : flat_map error_source d.told.diagnostics.items ≡ flat_map error_source c.told.diagnostics.items

-- the sources have these texts, which can be read
pub record AreHeldAs (texts : List (List ℕ)) (held : List HeldSource) : Type 0 where
  pub texts_are : texts_of held ≡ texts
  pub standing : standing_of held ≡ texts
  pub read : All (λ h. h.is_read ≡ true) held
