use Rattle.std.proofs.Common.{rules, get_or, ◌≡◌, ◌∙◌, sym, subst}
use Rattle.std.specs.Arc.{arc_value}
use Rattle.std.proofs.lemmas.List.{get_or-map}
use Rattle.hm_verdicts.specs.Sets.{module_at, no_module}
use Rattle.std.specs.Prelude.{IfSome}
use Rattle.hm_verdicts.specs.Verdicts.{Published}
use Rattle.hm_build_reports.specs.Settling.{status_of}
use Rattle.hm_build_exporters.specs.SettledSets.{set_of, status_in}
use Rattle.hm_build_exporters.proofs.Rows.{private_is, read_status}
use Rattle.hm_build_exporters.proofs.private.private_at.Goals as goal

pub returns : goal.returns
returns c =
    let set = c.args.set.now in
    let f = c.in-Some.interface.now in
    let one = c.index-set-number.result in
    let read = get_or set.settled.now c.args.number one in
    let good : status_of read ≡ Published f = subst (λ o. IfSome o (λ g. status_of read ≡ Published g.now)) c.in-Some.is c.interface_of.ensures in
    let program : c.deref.result.now ≡ module_at (set_of set) c.args.number = c.deref.ensures ∙ sym (get_or-map arc_value set.modules.now c.args.number c.index-set-number-2.result no_module c.requires.modules) in
    private_is (set_of set) (status_in set) c.args.number c.args.missing.space c.args.missing.name.now f c.deref.result.now c.in_ok-declared_at.field-0
    (read_status set.settled.now c.args.number one f c.requires.settled good) (c.is_exported.ensures.no c.if-is_exported.false) program c.in_ok-declared_at.ensures
