use Rattle.std.proofs.Common.{drop, get_or, map, refl}
use Rattle.std.specs.Arc.{arc_value}
use Rattle.hm_service_symbols.specs.SetSymbols.{set_symbols}
use Rattle.hm_service_symbols.proofs.Shares.{all_counted, source_more}
use Rattle.hm_service_symbols.proofs.set_symbols.set_symbols.Goals as goal

pub returns-then-index-counts : goal.returns-then-index-counts
returns-then-index-counts c =
    all_counted (drop c.part.index c.args.part.now) c.args.counts.now c.part.index (map arc_value c.part.rest.now) c.part.found.items (set_symbols c.args.part.now c.args.counts.now (map arc_value c.args.modules.now))
    c.if-index-counts.true c.part.invariant

pub part-preserved : goal.part-preserved
part-preserved c =
    let i = c.part.index in
    let all = set_symbols c.args.part.now c.args.counts.now (map arc_value c.args.modules.now) in
    source_more c.args.part.now c.args.counts.now i (get_or c.args.part.now i 0) (get_or c.args.counts.now i 0) (map arc_value c.part.rest.now) (map arc_value c.split_modules.result.0.now) (map arc_value c.split_modules.result.1.now)
    c.in_ok-symbols_in.field-0.items c.part.found.items c.add_source.new.found.items all c.part-test.true refl c.if-index-counts.false refl
    c.split_modules.ensures.first c.split_modules.ensures.others c.in_ok-symbols_in.ensures c.in_ok-add_source.ensures c.part.invariant
