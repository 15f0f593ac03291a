use Rattle.std.proofs.Common.{◌∙◌, IfSome, ap, map, subst}
use Rattle.std.specs.Prelude.{Contains}
use Rattle.hm_messages_details.specs.Parts.{HasLengthsIn, module_parts, part_of}
use Rattle.hm_messages_details.proofs.Found.{at_index}
use Rattle.hm_messages_details.proofs.InModules.{somewhere_lengths}
use Rattle.hm_messages_details.proofs.lengths.pattern_counts.Goals as goal

pub returns-then-differ : goal.returns-then-differ
returns-then-differ c =
    let m = c.args.program.now in
    let f = c.args.fault.now in
    let item = c.part-item.result in
    let there : Contains (module_parts m.decls) (part_of item) =
    subst (λ l. Contains l (part_of item)) (ap (map part_of) c.as_slice-row.ensures.value ∙ c.in_ok-parts.ensures)
    (at_index part_of c.as_slice-row.result.now c.row.part-index item c.row-test.true c.part-item.is) in
    let counts = c.in-Some.counts in
    (somewhere_lengths m f counts.here counts.right (part_of item) there (subst (λ o. IfSome o (λ k. HasLengthsIn f k.here k.right (part_of item))) c.in-Some.is c.in_ok-counts.ensures), c.differ.ensures c.if-differ.true)
