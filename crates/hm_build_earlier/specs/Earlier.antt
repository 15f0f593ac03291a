-- Earlier builds.
use Rattle.std.specs.Prelude.{map}
use Rattle.hm_run_sources.specs.ModuleCounts.{AreCountedModules}
use Rattle.hm_build_earlier.specs.declared.earlier.Earlier.{Earlier}

-- the build is of the modules that these texts spell
abbrev pub IsOfTexts : Earlier → Type 0
IsOfTexts e = AreCountedModules (map (λ s. s.items) e.texts.now) e.build.now.store.modules e.build.now.counts.items
