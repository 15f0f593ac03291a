-- The source of each module.
use Rattle.std.specs.Prelude.{◌≡◌, ℕ, ◌+◌, ◌<◌, ◌≤◌, List, [], length, map, take, slice_index_or}
use Rattle.hm_syntax.specs.declared.ast.Module.{Module}
use Rattle.hm_run_sources.specs.Refusals.{Refusal, lex, parse, plan}
use Rattle.hm_run_sources.specs.SourceModules.{AreModulesOf, HasModules}
use Rattle.hm_run_sources.specs.declared.located.Located.{Located}
use Rattle.hm_run_sources.specs.declared.located.SourceModule.{SourceModule}

-- the source with this number spells the module with this number; both are counted from 0
pub record IsSpelledBy (sources : List (List ℕ)) (m source : ℕ) : Type 0 where
  pub inside : source < length sources
  pub earlier : List Module
  pub own : List Module
  pub before : AreModulesOf (take source sources) earlier
  pub spelled : HasModules (slice_index_or sources source []) own
  pub low : length earlier ≤ m
  pub high : m < length earlier + length own

-- the headers of the modules of these sources, each with its source
pub record AreLocated (sources : List (List ℕ)) (located : List Located) : Type 0 where
  pub modules : List Module
  pub read : AreModulesOf sources modules
  pub as_many : length located ≡ length modules
  pub headers : map (λ l. l.header) located ≡ map (λ m. m.header) modules
  pub each : (m : ℕ) (d : Located) → m < length located → IsSpelledBy sources m (slice_index_or located m d).source

-- the headers for the messages of a refusal: those of the modules if the plan has the fault, and none if a source has it
abbrev pub AreHeadersFor : List (List ℕ) → Refusal → List Located → Type 0
AreHeadersFor sources (lex n fault) located = located ≡ []
AreHeadersFor sources (parse n fault) located = located ≡ []
AreHeadersFor sources (plan fault m i) located = AreLocated sources located

-- each of so many modules has the number of its source
pub record HaveOrigins (sources : List (List ℕ)) (modules : ℕ) (origins : List ℕ) : Type 0 where
  pub as_many : length origins ≡ modules
  pub each : (m d : ℕ) → m < length origins → IsSpelledBy sources m (slice_index_or origins m d)

-- a module that these sources spell, with its source and its name
pub record IsModuleOf (sources : List (List ℕ)) (m : SourceModule) : Type 0 where
  pub modules : List Module
  pub read : AreModulesOf sources modules
  pub within : m.number < length modules
  pub spelled : IsSpelledBy sources m.number m.source
  pub named : (d : Module) → m.name ≡ (slice_index_or modules m.number d).header.name
