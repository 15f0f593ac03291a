use Rattle.std.proofs.Common.{ap, map}
use Rattle.std.specs.Prelude.{option_map}
use Rattle.hm_lsp_server.proofs.Publishing.{same_second}
use Rattle.hm_lsp_server.specs.Servers.{good_of, held_of}
use Rattle.hm_lsp_server.proofs.server.Server.second.Goals as goal

pub returns-clause-second : goal.returns-clause-second
returns-clause-second g c =
    same_second (held_of c.args.self.now) c.held-held.result.now c.args.checked.now (good_of c.args.self.now) (map (option_map (λ t. t.items)) c.as_slice-good.result.now) c.in_ok-check_again.field-0 c.held-held.ensures
    (ap (map (option_map (λ t. t.items))) c.as_slice-good.ensures.value) c.in_ok-check_again.ensures.second
