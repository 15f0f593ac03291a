use Rattle.std.proofs.Common.{◌≡◌, map, take, string_bytes}
use Rattle.std.specs.List.{flat_map}
use Rattle.hm_run_sources.specs.Plans.{block_text}
use Rattle.hm_run_sources.specs.Views.{block_of}
use Rattle.hm_run_sources.proofs.plans.plan_text.Given as goal

abbrev pub invariant-loop-block : goal.invariant-loop-block
invariant-loop-block l = string_bytes l.text ≡ flat_map block_text (map block_of (take l.block-index l.block-items))
