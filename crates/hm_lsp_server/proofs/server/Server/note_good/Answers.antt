use Rattle.std.proofs.Common.{ap, map}
use Rattle.std.specs.Prelude.{option_map}
use Rattle.hm_service_stand_ins.specs.Findings.{findings_of}
use Rattle.hm_lsp_server.proofs.Publishing.{none_since, some_since}
use Rattle.hm_lsp_server.specs.Servers.{checked_of, good_of, held_of}
use Rattle.hm_lsp_server.proofs.server.Server.note_good.Goals as goal

pub returns-in_default-clause-good : goal.returns-in_default-clause-good
returns-in_default-clause-good c = none_since (held_of c.args.self.now) (checked_of c.args.self.now) (good_of c.args.self.now) c.in_default.is

pub returns-clause-good : goal.returns-clause-good
returns-clause-good c =
    some_since c.args.self.now c.in-Some.checked (findings_of c.said_by-said.result) c.held.result.now (map (option_map (λ t. t.items)) c.as_slice.result.now) (map (option_map (λ t. t.items)) c.in_ok-good.good.items) c.in-Some.is c.said_by-said.ensures
    c.held.ensures (ap (map (option_map (λ t. t.items))) c.as_slice.ensures.value) c.in_ok-good.ensures
