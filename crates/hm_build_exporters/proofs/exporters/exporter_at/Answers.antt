use Rattle.std.proofs.Common.{rules, get_or, ◌≡◌, Contains, List, ℕ, subst}
use Rattle.std.specs.Prelude.{IfSome}
use Rattle.hm_verdicts.specs.Verdicts.{Published}
use Rattle.hm_build_reports.specs.Settling.{status_of}
use Rattle.hm_build_reports.proofs.Reporting.{inside_set}
use Rattle.hm_build_exporters.proofs.Rows.{not_among, read_status}
use Rattle.hm_build_exporters.proofs.exporters.exporter_at.Goals as goal

pub returns : goal.returns
returns c =
    let set = c.args.set.now in
    let f = c.in-Some.interface.now in
    let one = c.index-set-number.result in
    let read = get_or set.settled.now c.args.number one in
    let good : status_of read ≡ Published f = subst (λ o. IfSome o (λ g. status_of read ≡ Published g.now)) c.in-Some.is c.interface_of.ensures in
    record {
      within = inside_set set.modules.now set.plan.now c.args.number c.requires.modules;
      foreign = subst (λ (l : List ℕ). ¬ (Contains l c.args.number)) c.imports-row.ensures (not_among c.imports-row.result.now c.args.number (search rules));
      published = read_status set.settled.now c.args.number one f c.requires.settled good;
      exported = search rules;
    }
