use Rattle.std.proofs.Common.{◌≡◌, refl, subst}
use Rattle.hm_lsp_session.specs.Stages.{request_decision}
use Rattle.hm_lsp_session.specs.Units.{IsAgreed, agreed}
use Rattle.hm_lsp_session.specs.Watching.{IsWatching, offered}
use Rattle.hm_lsp_session.specs.declared.stages.Decision.TheVariants.{Go}
use Rattle.hm_lsp_session.proofs.Going.{opens}
use Rattle.hm_lsp_session.proofs.Offering.{null_is}
use Rattle.hm_lsp_session.proofs.session.Session.go.Goals as goal

pub returns-in_ok-initialize-in-Initialize-clause-units : goal.returns-in_ok-initialize-in-Initialize-clause-units
returns-in_ok-initialize-in-Initialize-clause-units c =
    let e = c.in_ok-initialize-in-Initialize.ensures in
    let fresh = opens c.args.self.now.stage (subst (λ m. request_decision c.args.self.now.stage m ≡ Go) c.in-Initialize.is c.requires.decided) in
    agreed fresh e.stage refl (subst (λ p. IsAgreed p c.initialize.new.self.encoding) (c.params_or-params.ensures null_is) e.agreed) e.said

pub returns-in_ok-initialize-in-Initialize-clause-watches : goal.returns-in_ok-initialize-in-Initialize-clause-watches
returns-in_ok-initialize-in-Initialize-clause-watches c =
    let e = c.in_ok-initialize-in-Initialize.ensures in
    let fresh = opens c.args.self.now.stage (subst (λ m. request_decision c.args.self.now.stage m ≡ Go) c.in-Initialize.is c.requires.decided) in
    offered fresh e.stage (subst (λ p. IsWatching p c.initialize.new.self.watches_files) (c.params_or-params.ensures null_is) e.watching)
