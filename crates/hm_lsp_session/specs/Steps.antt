-- How far a session is after a message (Language Server Protocol 3.17, "Server lifecycle").
use Rattle.std.specs.Prelude.{◌≡◌, ◌⊎◌}
use Rattle.hm_lsp_session.specs.Stages.{exit_decision}
use Rattle.hm_lsp_session.specs.declared.session.Outcome.{Outcome}
use Rattle.hm_lsp_session.specs.declared.session.Outcome.TheVariants.{Ask, Begun, Changed, Ended, Files, Nothing, Reply}
use Rattle.hm_lsp_session.specs.declared.session.Session.{Session}
use Rattle.hm_lsp_session.specs.declared.stages.Decision.TheVariants.{End}
use Rattle.hm_lsp_session.specs.declared.stages.Stage.{Stage}
use Rattle.hm_lsp_session.specs.declared.stages.Stage.TheVariants.{New, Ready, ShutDown}

abbrev pub stage_of : Session → Stage
stage_of s = s.stage

-- `initialize` makes a session ready, and `shutdown` ends it
abbrev pub IsAhead : Stage → Stage → Type 0
IsAhead New after = after ≡ Ready
IsAhead Ready after = after ≡ ShutDown
IsAhead ShutDown after = ⊥

-- a session goes on only with a reply. Only while it is ready, the service is asked, texts change, and the client names files or says that it is ready. The exit status is 0 only after `shutdown`
abbrev pub IsStep : Stage → Outcome → Stage → Type 0
IsStep before (Reply reply) after = (after ≡ before) ⊎ IsAhead before after
IsStep before (Ask question request) after = (before ≡ Ready) × (after ≡ before)
IsStep before Changed after = (before ≡ Ready) × (after ≡ before)
IsStep before Begun after = (before ≡ Ready) × (after ≡ before)
IsStep before (Files uris) after = (before ≡ Ready) × (after ≡ before)
IsStep before Nothing after = after ≡ before
IsStep before (Ended status) after = (after ≡ before) × (exit_decision before ≡ End status)

-- what an edit leads to
abbrev pub IsEdit : Outcome → Type 0
IsEdit (Reply reply) = ⊥
IsEdit (Ask question request) = ⊥
IsEdit Changed = Unit {0}
IsEdit Begun = ⊥
IsEdit (Files uris) = ⊥
IsEdit Nothing = Unit {0}
IsEdit (Ended status) = ⊥

-- what a notification that is acted on leads to
abbrev pub IsNews : Outcome → Type 0
IsNews (Reply reply) = ⊥
IsNews (Ask question request) = ⊥
IsNews Changed = Unit {0}
IsNews Begun = Unit {0}
IsNews (Files uris) = Unit {0}
IsNews Nothing = Unit {0}
IsNews (Ended status) = ⊥
