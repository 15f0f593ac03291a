use Rattle.std.proofs.Common.{rules, ◌≡◌, ◌∙◌, ap, map, string_bytes, sym, true}
use Rattle.std.specs.Prelude.{option_map}
use Rattle.hm_lsp_sources.specs.Held.{held_in}
use Rattle.hm_lsp_server.specs.Published.{changed}
use Rattle.hm_lsp_server.specs.Servers.{checked_of, good_of, held_of, is_changed, session_of}
use Rattle.hm_lsp_session.specs.Steps.{stage_of}
use Rattle.hm_lsp_session.specs.declared.stages.Stage.TheVariants.{Ready}
use Rattle.hm_lsp_server.proofs.Publishing.{good_since, shown_since}
use Rattle.hm_lsp_server.proofs.server.Server.publish.Goals as goal

pub returns-clause-published : goal.returns-clause-published
returns-clause-published g c =
    let was : is_changed c.args.self.now ≡ true = search rules in
    let ready : stage_of (session_of c.args.self.now) ≡ Ready = search rules in
    let kept = c.in_ok-tell.ensures.kept in
    let noted = c.in_ok-note_good.ensures in
    let made = c.in_ok-tell.ensures.published in
    let first = c.refresh.new.self in
    let after = c.tell.new.self in
    let good = good_since (held_of first) (held_of after) (checked_of first) (checked_of after) (good_of first) (good_of c.args.self.now) (good_of c.note_good.new.self) (good_of after) (kept.held ∙ ap held_in noted.sources)
    (kept.checked ∙ noted.checked) (ap (λ v. map (option_map (λ t. t.items)) v.items) (sym c.refresh.ensures.good)) kept.good noted.good in (
      made.0,
      made.1,
      changed was ready (kept.changed ∙ (noted.changed ∙ c.refresh.ensures.changed)) good
          (shown_since c.args.self.now c.note_good.new.self after made.0 (ap (λ v. map (option_map string_bytes) v.items) (noted.shown ∙ c.refresh.ensures.shown)) made.2),
    )
