use Rattle.std.proofs.Common.{[], refl, subst}
use Rattle.std.proofs.lemmas.Bool.{false≢true}
use Rattle.hm_lsp_frames.specs.Pending.{IsPending}
use Rattle.hm_lsp_serving.specs.Turns.{told, waits}
use Rattle.hm_lsp_serving.proofs.Turning.{no_rest, written_none}
use Rattle.hm_lsp_serving.proofs.turns.finish.Goals as goal

pub returns-then-not-is_empty-clause-told : goal.returns-then-not-is_empty-clause-told
returns-then-not-is_empty-clause-told g c = (
  [],
  (
    λ rest is. waits (λ none. false≢true (c.if-not-is_empty.ensures.1 (subst (IsPending c.args.frames.now) none is))) refl refl,
    written_none (g.W.Write.contents c.args.writer.now),
  ),
)

pub returns-clause-told : goal.returns-clause-told
returns-clause-told g c =
    let done = c.in_ok-publish.ensures.published in
    let p = done.1.0 in
    (done.0, (λ rest is. told (no_rest c.args.frames.now rest (c.if-not-is_empty.ensures.0 refl) is) p.published p.session p.sources p.held, done.1.1))
