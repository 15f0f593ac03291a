-- The model of a block.
use Rattle.std.specs.Prelude.{map}
use Rattle.hm_run_sources.specs.Plans.{Block}
use Rattle.hm_run_sources.specs.declared.plans.ModuleBlock.{ModuleBlock}

abbrev pub block_of : ModuleBlock → Block
block_of b = record { name = b.name.now; imports = map (λ s. s.now) b.imports.items }
