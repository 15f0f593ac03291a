use Rattle.std.proofs.Common.{subst}
use Rattle.hm_lsp_results.specs.Asked.{subject_of}
use Rattle.hm_lsp_results.specs.Prepared.{IsPreparedIn, nowhere, prepared}
use Rattle.hm_lsp_results.specs.References.{unread}
use Rattle.hm_lsp_results.proofs.Requests.{null_is}
use Rattle.hm_service_rename.specs.declared.results.Prepared.{Prepared}
use Rattle.hm_lsp_results.proofs.preparing.prepare.Goals as goal

pub returns-in_default-clause-value : goal.returns-in_default-clause-value
returns-in_default-clause-value g c = nowhere (unread c.in_default.ensures.none) null_is

pub returns-in_default-place_in-clause-value : goal.returns-in_default-place_in-clause-value
returns-in_default-place_in-clause-value g c = nowhere c.in_default-place_in.ensures.none null_is

pub returns-in-Refused-clause-refused : goal.returns-in-Refused-clause-refused
returns-in-Refused-clause-refused g c =
    let asked = subject_of c.args.asked.now in
    let h = subst (λ (x : Prepared). IsPreparedIn asked c.args.source c.in-Some-place_in.place x) c.in-Refused.is c.in_ok-refusal.ensures in
    record { place = c.in-Some-place_in.place; set = h.set; spot = h.spot; at = c.in-Some-place_in.ensures.some; of = h.of; is = h.is }

pub returns-in_ok-target_in-in-Renamable-clause-value : goal.returns-in_ok-target_in-in-Renamable-clause-value
returns-in_ok-target_in-in-Renamable-clause-value g c =
    let asked = subject_of c.args.asked.now in
    prepared c.in-Some-place_in.ensures.some (subst (λ (x : Prepared). IsPreparedIn asked c.args.source c.in-Some-place_in.place x) c.in-Renamable.is c.in_ok-refusal.ensures) c.in-Some.ensures.some c.in_ok-target_in-in-Renamable.ensures
