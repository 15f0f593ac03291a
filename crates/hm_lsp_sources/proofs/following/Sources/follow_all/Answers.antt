use Rattle.std.proofs.Common.{◌≡◌, ◌<◌, ◌∙◌, rules, false, ap, length, subst, sym}
use Rattle.hm_lsp_sources.specs.Following.{last_open}
use Rattle.hm_lsp_sources.specs.Held.{named_in}
use Rattle.hm_lsp_sources.specs.Steps.{IsFollowedBelow}
use Rattle.hm_lsp_sources.specs.declared.source.Source.{Source}
use Rattle.hm_lsp_sources.proofs.Followed.{below_more, now, same_length}
use Rattle.hm_lsp_sources.proofs.following.Sources.follow_all.Goals as goal
use Rattle.hm_lsp_sources.proofs.following.Sources.follow_all.Goals.{then-branch, else-branch}

pub sources-preserved : goal.sources-preserved
sources-preserved g c =
    let both : (c.if-branch.is_other ≡ false → (c.sources.is_other ≡ false) × (c.in_ok-follow_at.field-0 ≡ false)) =
    elim c.if-branch.branch [
      | then-branch w ↦ search (rules)
      | else-branch w ↦ search (rules)
    ] in
    let low : c.sources.number < length (named_in c.sources.self) = subst (λ k. c.sources.number < k) (sym (same_length (named_in c.args.self.now) (named_in c.sources.self) c.sources.invariant.names)) (search (rules)) in
    let at : now c.last_open-document.result ≡ last_open c.args.documents.now c.index.result.now.name.items = c.last_open-document.ensures ∙ ap (last_open c.args.documents.now) c.as_slice-in-sources.ensures.value in
    below_more c.args.documents.now c.sources.number c.sources.is_other c.in_ok-follow_at.field-0 c.if-branch.is_other (now c.last_open-document.result) c.args.self.now c.sources.self c.follow_at.new.self c.index.result.now low
    c.sources.invariant (at ∙ ap (λ (y : Source). last_open c.args.documents.now y.name.items) c.index.ensures) c.in_ok-follow_at.ensures both

pub returns : goal.returns
returns g c = subst (λ n. IsFollowedBelow c.args.documents.now n c.sources.is_other c.args.self.now c.sources.self) (search (rules)) c.sources.invariant
