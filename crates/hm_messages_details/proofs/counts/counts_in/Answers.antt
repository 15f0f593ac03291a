use Rattle.std.proofs.Common.{ap, length, subst, sym}
use Rattle.hm_names.proofs.Rows.{patterns_counted, types_counted}
use Rattle.hm_messages_details.specs.Parts.{HasArgumentsIn, part_of}
use Rattle.hm_messages_details.proofs.counts.counts_in.Goals as goal

pub returns-in_ok-right-in-Pattern : goal.returns-in_ok-right-in-Pattern
returns-in_ok-right-in-Pattern c = λ fs scope known.
    let row = c.in-Pattern.args.now in
    subst (HasArgumentsIn c.args.site.now.program.now fs c.args.fault.now (length row) c.in_ok-right-in-Pattern.right) (ap part_of (sym c.in-Pattern.is))
    (c.is_at.ensures c.if-not-is_at.false, sym (patterns_counted row), c.in_ok-right-in-Pattern.ensures fs scope known)

pub returns-in_ok-right-in-Type : goal.returns-in_ok-right-in-Type
returns-in_ok-right-in-Type c = λ fs scope known.
    let row = c.in-Type.args.now in
    subst (HasArgumentsIn c.args.site.now.program.now fs c.args.fault.now (length row) c.in_ok-right-in-Type.right) (ap part_of (sym c.in-Type.is))
    (c.is_at-in-Type.ensures c.if-not-is_at-2.false, sym (types_counted row), c.in_ok-right-in-Type.ensures fs scope known)
