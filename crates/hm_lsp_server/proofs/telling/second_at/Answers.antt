use Rattle.std.proofs.Common.{map}
use Rattle.hm_service_stand_ins.specs.Findings.{findings_of}
use Rattle.hm_lsp_server.proofs.Told.{second_some}
use Rattle.hm_lsp_server.proofs.telling.second_at.Goals as goal

pub returns : goal.returns
returns c =
    let telling = c.args.telling.now in
    second_some telling.held.now telling.checked.now telling.second c.in-Some.second (findings_of c.said_by-said.result) c.as_slice.result.now c.as_slice-2.result.now c.args.number (map (λ d. d.now) c.in_ok-missed_at.field-0.items) c.in-Some.is
    c.said_by-said.ensures c.as_slice.ensures.value c.as_slice-2.ensures.value c.in_ok-missed_at.ensures
