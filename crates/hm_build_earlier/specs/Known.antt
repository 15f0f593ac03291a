-- The sources of earlier builds.
use Rattle.std.specs.Prelude.{map}
use Rattle.std.specs.Arc.{arc_value}
use Rattle.hm_run_sources.specs.SourceModules.{HasModules}
use Rattle.hm_build_earlier.specs.declared.known.KnownSource.{KnownSource}

-- the text spells the modules
abbrev pub IsKnown : KnownSource → Type 0
IsKnown k = HasModules k.text.now (map arc_value k.modules.now)
