use Rattle.std.proofs.Common.{arith, false, get_or, length}
use Rattle.std.proofs.lemmas.Bool.{both_ways}
use Rattle.std.proofs.lemmas.List.{length-map}
use Rattle.hm_graph.specs.Outline.{outline}
use Rattle.hm_service_sources.specs.LeftOut.{outlines_of}
use Rattle.hm_service_sources.proofs.LeftOutMarks.{way_rest}
use Rattle.hm_service_sources.proofs.left_out.is_in_the_way.Goals as goal

pub returns : goal.returns
returns c =
    way_rest (outlines_of c.args.located.now) c.args.number c.has_missing.result
    (λ many. omega (arith, many, c.if-located-gt-MODULE_LIMIT.false, length-map c.args.located.now (λ l. outline l.header)))
    (λ round. both_ways (get_or c.args.recursive.now c.args.number false) c.if-recursive-number.false (c.requires.recursive.1 round))
    (λ taken. both_ways c.is_taken.result c.if-is_taken.false (c.is_taken.ensures.1 taken))
    c.has_missing.ensures.yes c.has_missing.ensures.none
