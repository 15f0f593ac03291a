use Rattle.std.proofs.Common.{◌≡◌, rules, false}
use Rattle.hm_lsp_sources.proofs.Grown.{grown_more, grown_whole}
use Rattle.hm_lsp_sources.proofs.following.Sources.add_all.Goals as goal
use Rattle.hm_lsp_sources.proofs.following.Sources.add_all.Goals.{then-branch, else-branch}

pub documents-preserved : goal.documents-preserved
documents-preserved g c =
    let both : (c.if-branch.is_added ≡ false → (c.documents.is_added ≡ false) × (c.in_ok-add_missing.field-0 ≡ false)) =
    elim c.if-branch.branch [
      | then-branch w ↦ search (rules)
      | else-branch w ↦ search (rules)
    ] in
    grown_more c.args.documents.now c.documents.document-index c.document-item.result c.documents.is_added c.in_ok-add_missing.field-0 c.if-branch.is_added c.args.self.now c.documents.self c.add_missing.new.self c.documents-test.true
    c.document-item.is c.documents.invariant c.in_ok-add_missing.ensures both

pub returns : goal.returns
returns g c = grown_whole c.args.documents.now c.documents.document-index c.documents.is_added c.args.self.now c.documents.self (search (rules)) c.documents.invariant
