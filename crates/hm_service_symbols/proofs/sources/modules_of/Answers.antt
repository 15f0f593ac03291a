use Rattle.std.proofs.Common.{◌∙◌, drop, map, sym}
use Rattle.std.specs.Arc.{arc_value}
use Rattle.hm_service_symbols.proofs.Shares.{none_counted}
use Rattle.hm_service_symbols.proofs.sources.modules_of.Goals as goal

pub returns-then-index-counts : goal.returns-then-index-counts
returns-then-index-counts c =
    sym (none_counted c.args.source (drop c.part.index c.args.part.now) c.args.counts.now c.part.index (map arc_value c.part.rest.now) c.if-index-counts.true) ∙ c.part.invariant
