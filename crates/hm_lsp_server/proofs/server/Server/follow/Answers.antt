use Rattle.std.proofs.Common.{◌≡◌, IfSome, subst, sym, ap, ◌∙◌}
use Rattle.hm_service.specs.Checks.{IsHeldCheck}
use Rattle.hm_lsp_server.proofs.Publishing.{orderly_without}
use Rattle.hm_lsp_server.specs.Second.{workers}
use Rattle.hm_lsp_session.specs.Documents.{listed}
use Rattle.hm_lsp_session.specs.Effects.{documents_of}
use Rattle.hm_lsp_sources.specs.Following.{AreFollowing}
use Rattle.hm_lsp_sources.specs.Held.{held_in, named_in}
use Rattle.hm_lsp_server.proofs.server.Server.follow.Goals as goal

pub returns-then-not-is_other-clause-orderly : goal.returns-then-not-is_other-clause-orderly
returns-then-not-is_other-clause-orderly g c =
    let same : c.as_slice-documents.result.now ≡ listed (documents_of c.args.self.now.session) = c.as_slice-documents.ensures ∙ ap listed c.documents.ensures in
    let follows = subst (λ l. AreFollowing l (named_in c.follow.new.self) (held_in c.follow.new.self)) same (c.in_ok-is_other.ensures.following c.requires.followed.0 c.requires.followed.1) in
    record { current = subst (λ h. IfSome c.args.self.now.checked (IsHeldCheck workers h)) (sym (c.in_ok-is_other.ensures.held c.if-not-is_other.true)) c.requires.current; follows = follows }

pub returns-clause-orderly : goal.returns-clause-orderly
returns-clause-orderly g c =
    let same = c.as_slice-documents.ensures ∙ ap listed c.documents.ensures ∙ ap (λ x. listed (documents_of x)) (sym c.forget.ensures.session) in
    orderly_without c.forget.new.self c.as_slice-documents.result.now c.follow.new.self c.forget.ensures.checked c.forget.ensures.sources same (c.in_ok-is_other.ensures.following c.requires.followed.0 c.requires.followed.1)
