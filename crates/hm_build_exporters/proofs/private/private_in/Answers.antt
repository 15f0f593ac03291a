use Rattle.std.proofs.Common.{rules, ◌<◌, ◌≡◌, get_or, length, subst, sym}
use Rattle.hm_build_reports.proofs.Tables.{row_inside}
use Rattle.hm_build_exporters.proofs.private.private_in.Goals as goal

pub private_at-requires-clause-modules : goal.private_at-requires-clause-modules
private_at-requires-clause-modules c =
    let set = c.args.set.now in
    row_inside set.modules.now set.plan.now c.args.importer c.imports-row.result.now c.requires.lawful c.requires.number c.imports-row.ensures c.row.number-index 0 c.row-test.true

pub private_at-requires-clause-settled : goal.private_at-requires-clause-settled
private_at-requires-clause-settled c =
    let set = c.args.set.now in
    subst (λ n. get_or c.imports-row.result.now c.row.number-index 0 < n) (sym c.requires.len)
    (row_inside set.modules.now set.plan.now c.args.importer c.imports-row.result.now c.requires.lawful c.requires.number c.imports-row.ensures c.row.number-index 0 c.row-test.true)

pub returns-in-Some-clause-within : goal.returns-in-Some-clause-within
returns-in-Some-clause-within c =
    let set = c.args.set.now in
    row_inside set.modules.now set.plan.now c.args.importer c.imports-row.result.now c.requires.lawful c.requires.number c.imports-row.ensures c.row.number-index 0 c.row-test.true
