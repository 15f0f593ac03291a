use Rattle.std.proofs.Common.{rules, ◌≡◌, Some, codes, subst, sym}
use Rattle.serde_json.specs.View.{view}
use Rattle.hm_lsp_session.specs.Effects.{HasNoChange, IsNotApplied}
use Rattle.hm_lsp_session.specs.Params.{AreListedIn, string_at}
use Rattle.hm_lsp_session.proofs.Going.{no_change, only_for}
use Rattle.hm_lsp_session.proofs.session.Session.change.Goals as goal

pub returns-clause-ignored : goal.returns-clause-ignored
returns-clause-ignored c =
    let params = view c.args.params.now in
    let named : string_at (codes "/textDocument/uri") params ≡ Some c.in-Some.uri.now = sym c.in-Some.ensures in
    let listed : AreListedIn params c.in-Some-2.changes.items = search rules in
    only_for (IsNotApplied c.args.self.now.encoding c.in-Some.uri.now c.as_slice.result.now c.args.self.now.documents) (HasNoChange c.args.self.now.encoding params c.args.self.now.documents) c.in_ok-apply.field-0
    (no_change c.args.self.now.encoding params c.args.self.now.documents c.in-Some.uri.now c.as_slice.result.now named (subst (AreListedIn params) (sym c.as_slice.ensures.value) listed)) c.in_ok-apply.ensures.ignored
