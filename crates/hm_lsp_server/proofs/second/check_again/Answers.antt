use Rattle.std.proofs.Common.{map, subst}
use Rattle.std.specs.Prelude.{option_map}
use Rattle.hm_service_stand_ins.specs.Findings.{findings_of}
use Rattle.hm_service_stand_ins.specs.Findings.{Findings}
use Rattle.hm_service_stand_ins.specs.StandIns.{MissesSome}
use Rattle.hm_lsp_server.proofs.Publishing.{answered, misses_made, none_made, some_made}
use Rattle.hm_lsp_server.proofs.second.check_again.Goals as goal

pub returns-in_err-made-clause-err : goal.returns-in_err-made-clause-err
returns-in_err-made-clause-err g c = answered c.from_residual.result (subst (λ (f : Findings). MissesSome f c.args.held.now) c.said_by-said.ensures c.in_err-made.ensures.err)

pub returns-in_err-again-clause-err : goal.returns-in_err-again-clause-err
returns-in_err-again-clause-err g c =
    answered c.from_residual-in_err-again.result (misses_made (findings_of c.said_by-said.result) c.args.checks.now.first.now c.args.held.now (map (option_map (λ t. t.items)) c.args.good.now) c.in_ok-made.made c.in-Some.set c.said_by-said.ensures c.in-Some.is
    c.in_ok-made.ensures.set)

pub returns-in_default-clause-second : goal.returns-in_default-clause-second
returns-in_default-clause-second g c =
    none_made (findings_of c.said_by-said.result) c.args.checks.now.first.now c.args.held.now (map (option_map (λ t. t.items)) c.args.good.now) c.in_ok-made.made c.said_by-said.ensures c.in_default.is c.in_ok-made.ensures.set

pub returns-clause-second : goal.returns-clause-second
returns-clause-second g c =
    some_made (findings_of c.said_by-said.result) c.args.checks.now.first.now c.args.held.now (map (option_map (λ t. t.items)) c.args.good.now) c.in_ok-made.made c.in-Some.set c.as_slice.result.now c.in_ok-again.again c.said_by-said.ensures c.in-Some.is
    c.in_ok-made.ensures.set c.as_slice.ensures.value c.in_ok-again.ensures
