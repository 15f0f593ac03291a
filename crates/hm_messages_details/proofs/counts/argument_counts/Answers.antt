use Rattle.std.proofs.Common.{◌∙◌, ap, map, subst}
use Rattle.std.specs.Prelude.{Contains}
use Rattle.hm_messages_details.specs.Parts.{module_parts, part_of}
use Rattle.hm_messages_details.proofs.Found.{at_index}
use Rattle.hm_messages_details.proofs.InModules.{somewhere_arguments}
use Rattle.hm_messages_details.proofs.counts.argument_counts.Goals as goal

pub returns-then-differ : goal.returns-then-differ
returns-then-differ c = λ fs scope known.
    let m = c.args.site.now.program.now in
    let f = c.args.fault.now in
    let item = c.part-item.result in
    let there : Contains (module_parts m.decls) (part_of item) =
    subst (λ l. Contains l (part_of item)) (ap (map part_of) c.as_slice-row.ensures.value ∙ c.in_ok-parts.ensures)
    (at_index part_of c.as_slice-row.result.now c.row.part-index item c.row-test.true c.part-item.is) in
    let counts = c.in-Some.counts in
    (somewhere_arguments m fs f counts.here counts.right (part_of item) there (c.in-Some.ensures fs scope known), c.differ.ensures c.if-differ.true)
