use Rattle.std.proofs.Common.{◌∙◌, [], ◌∷◌, map, ap, refl}
use Rattle.std.proofs.lemmas.List.{map-append}
use Rattle.serde_json.specs.View.{view}
use Rattle.hm_lsp_server.specs.Published.{no_check, no_second}
use Rattle.hm_lsp_server.specs.Second.{findings_in}
use Rattle.hm_lsp_server.specs.Servers.{held_of}
use Rattle.hm_lsp_server.proofs.Publishing.{after_notice, misses_since, shown_by_both}
use Rattle.hm_lsp_server.proofs.server.Server.tell.Goals as goal

pub returns-in_default-clause-published : goal.returns-in_default-clause-published
returns-in_default-clause-published g c = (
  view c.in_ok-no_check.field-0 ∷ [],
  ap (map view) c.in_ok-push.ensures.items ∙ map-append view c.args.sent.now.items (c.in_ok-no_check.field-0 ∷ []),
  no_check c.in_default.is (ap (λ d. d ∷ []) c.in_ok-no_check.ensures) refl,
)

pub returns-in_ok-tell_both-in-Ok-clause-published : goal.returns-in_ok-tell_both-in-Ok-clause-published
returns-in_ok-tell_both-in-Ok-clause-published g c =
    let made = c.in_ok-tell_both-in-Ok.ensures.published in
    let kept = c.in_ok-tell_both-in-Ok.ensures.kept in
    let check = made.2 c.in-Some.checked c.in-Some.is in (
      made.0,
      made.1,
      shown_by_both c.args.self.now _ c.in-Some.checked c.in-Ok.second made.0 record { session = kept.session; sources = kept.sources; held = kept.held; good = kept.good; checked = kept.checked; changed = kept.changed } c.in-Ok.ensures.second
          record { checked = check.checked; check = check.check; told = check.told },
    )

pub returns-in_ok-tell_both-in-Err-clause-published : goal.returns-in_ok-tell_both-in-Err-clause-published
returns-in_ok-tell_both-in-Err-clause-published g c =
    let made = c.in_ok-tell_both-in-Err.ensures.published in
    let notice = c.in_ok-no_check-in-Err.field-0 in (
      view notice ∷ made.0,
      after_notice (map view c.args.sent.now.items) (map view c.push-in-Err.new.self.items) (map view c.tell_both-in-Err.new.sent.items) made.0 (view notice)
          (ap (map view) c.in_ok-push-in-Err.ensures.items ∙ map-append view c.args.sent.now.items (notice ∷ [])) made.1,
      no_second (misses_since (findings_in c.in-Some.checked) (held_of c.args.self.now) (held_of c.tell_both-in-Err.new.self) c.in_ok-tell_both-in-Err.ensures.kept.held c.in-Err.ensures.err)
          (ap (λ d. d ∷ made.0) c.in_ok-no_check-in-Err.ensures) (made.2 c.in-Some.checked c.in-Some.is),
    )
