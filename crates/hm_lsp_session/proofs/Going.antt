-- What follows from the tables of decisions.
use Rattle.std.proofs.Common.{◌≡◌, ℕ, List, Option, None, Some, codes, inl, inr, map, string_bytes, Bool, true, false, refl, sym, ap, subst, ◌∙◌}
use Rattle.std.proofs.lemmas.Bool.{false≢true}
use Rattle.serde_json.specs.Data.{Data}
use Rattle.serde_json.specs.declared.value.Value.{Value}
use Rattle.serde_json.specs.Find.{get}
use Rattle.hm_lsp_positions.specs.declared.changes.Change.{Change}
use Rattle.hm_lsp_positions.specs.declared.units.Encoding.{Encoding}
use Rattle.hm_lsp_session.specs.Effects.{HasNoChange, IsIgnored, IsIgnoredIn, IsNotApplied, IsNothingOnlyFor, closed, reversed}
use Rattle.hm_lsp_session.specs.Files.{IfBegun, IfEnded, IfFiles}
use Rattle.hm_lsp_session.specs.Params.{AreListedIn, string_at}
use Rattle.hm_lsp_session.specs.Stages.{notification_decision, ready_decision, request_decision}
use Rattle.hm_lsp_session.specs.declared.documents.Documents.{Documents}
use Rattle.hm_lsp_session.specs.Steps.{IsEdit, IsNews, IsStep}
use Rattle.hm_lsp_session.specs.declared.session.Outcome.{Outcome}
use Rattle.hm_lsp_session.specs.declared.session.Outcome.TheVariants.{Ask, Begun, Changed, Ended, Files, Nothing, Reply}
use Rattle.hm_lsp_session.specs.declared.stages.Decision.{Decision}
use Rattle.hm_lsp_session.specs.declared.stages.Decision.TheVariants.{End, Go, Ignore, Refuse}
use Rattle.hm_lsp_session.specs.declared.stages.Method.{Method}
use Rattle.hm_lsp_session.specs.declared.stages.Method.TheVariants.{DidChange, DidChangeWatchedFiles, DidClose, DidOpen, Exit, Initialize, Initialized, Question, Shutdown, Unknown}
use Rattle.hm_lsp_session.specs.declared.stages.Question.{Question as Asked}
use Rattle.hm_lsp_session.specs.declared.stages.Refusal.{Refusal}
use Rattle.hm_lsp_session.specs.declared.stages.Stage.{Stage}
use Rattle.hm_lsp_session.specs.declared.stages.Stage.TheVariants.{New, Ready, ShutDown}

abbrev is_go : Decision → Bool
is_go Go = true
is_go (Refuse why) = false
is_go Ignore = false
is_go (End status) = false

-- a notification that has an effect comes while the session is ready
pub editing : (s : Stage) (m : Method) → notification_decision s m ≡ Go → s ≡ Ready
editing New Initialize h = absurd (false≢true (ap is_go h))
editing New Initialized h = absurd (false≢true (ap is_go h))
editing New Shutdown h = absurd (false≢true (ap is_go h))
editing New Exit h = absurd (false≢true (ap is_go h))
editing New DidOpen h = absurd (false≢true (ap is_go h))
editing New DidChange h = absurd (false≢true (ap is_go h))
editing New DidClose h = absurd (false≢true (ap is_go h))
editing New DidChangeWatchedFiles h = absurd (false≢true (ap is_go h))
editing New (Question q) h = absurd (false≢true (ap is_go h))
editing New Unknown h = absurd (false≢true (ap is_go h))
editing Ready m h = refl
editing ShutDown Initialize h = absurd (false≢true (ap is_go h))
editing ShutDown Initialized h = absurd (false≢true (ap is_go h))
editing ShutDown Shutdown h = absurd (false≢true (ap is_go h))
editing ShutDown Exit h = absurd (false≢true (ap is_go h))
editing ShutDown DidOpen h = absurd (false≢true (ap is_go h))
editing ShutDown DidChange h = absurd (false≢true (ap is_go h))
editing ShutDown DidClose h = absurd (false≢true (ap is_go h))
editing ShutDown DidChangeWatchedFiles h = absurd (false≢true (ap is_go h))
editing ShutDown (Question q) h = absurd (false≢true (ap is_go h))
editing ShutDown Unknown h = absurd (false≢true (ap is_go h))

-- `initialize` begins a session
pub opens : (s : Stage) → request_decision s Initialize ≡ Go → s ≡ New
opens New h = refl
opens Ready h = absurd (false≢true (ap is_go h))
opens ShutDown h = absurd (false≢true (ap is_go h))

-- `initialize` and `shutdown` are taken once, and questions while the session is ready
pub first_step : (s after : Stage) (reply : Value) → request_decision s Initialize ≡ Go → after ≡ Ready → IsStep s (Reply reply) after
first_step New after reply h is = inr is
first_step Ready after reply h is = absurd (false≢true (ap is_go h))
first_step ShutDown after reply h is = absurd (false≢true (ap is_go h))

pub last_step : (s after : Stage) (reply : Value) → request_decision s Shutdown ≡ Go → after ≡ ShutDown → IsStep s (Reply reply) after
last_step New after reply h is = absurd (false≢true (ap is_go h))
last_step Ready after reply h is = inr is
last_step ShutDown after reply h is = absurd (false≢true (ap is_go h))

pub question_step : (s : Stage) (q : Asked) (request : Value) → request_decision s (Question q) ≡ Go → IsStep s (Ask q request) s
question_step New q request h = absurd (false≢true (ap is_go h))
question_step Ready q request h = (refl, refl)
question_step ShutDown q request h = absurd (false≢true (ap is_go h))

pub news_step : (before after : Stage) (outcome : Outcome) → before ≡ Ready → after ≡ before → IsNews outcome → IsStep before outcome after
news_step before after (Reply reply) ready same h = absurd h
news_step before after (Ask question request) ready same h = absurd h
news_step before after Changed ready same h = (ready, same)
news_step before after Begun ready same h = (ready, same)
news_step before after (Files uris) ready same h = (ready, same)
news_step before after Nothing ready same h = same
news_step before after (Ended status) ready same h = absurd h

is_end : Decision → Bool
is_end Go = false
is_end (Refuse why) = false
is_end Ignore = false
is_end (End status) = true

-- a server ends only after `exit`
pub only_exit : (s : Stage) (m : Method) (status : ℕ) → notification_decision s m ≡ End status → m ≡ Exit
unfolding is_end
only_exit s Exit status h = refl
only_exit New Initialize status h = absurd (false≢true (ap is_end h))
only_exit New Initialized status h = absurd (false≢true (ap is_end h))
only_exit New Shutdown status h = absurd (false≢true (ap is_end h))
only_exit New DidOpen status h = absurd (false≢true (ap is_end h))
only_exit New DidChange status h = absurd (false≢true (ap is_end h))
only_exit New DidClose status h = absurd (false≢true (ap is_end h))
only_exit New DidChangeWatchedFiles status h = absurd (false≢true (ap is_end h))
only_exit New (Question q) status h = absurd (false≢true (ap is_end h))
only_exit New Unknown status h = absurd (false≢true (ap is_end h))
only_exit Ready Initialize status h = absurd (false≢true (ap is_end h))
only_exit Ready Initialized status h = absurd (false≢true (ap is_end h))
only_exit Ready Shutdown status h = absurd (false≢true (ap is_end h))
only_exit Ready DidOpen status h = absurd (false≢true (ap is_end h))
only_exit Ready DidChange status h = absurd (false≢true (ap is_end h))
only_exit Ready DidClose status h = absurd (false≢true (ap is_end h))
only_exit Ready DidChangeWatchedFiles status h = absurd (false≢true (ap is_end h))
only_exit Ready (Question q) status h = absurd (false≢true (ap is_end h))
only_exit Ready Unknown status h = absurd (false≢true (ap is_end h))
only_exit ShutDown Initialize status h = absurd (false≢true (ap is_end h))
only_exit ShutDown Initialized status h = absurd (false≢true (ap is_end h))
only_exit ShutDown Shutdown status h = absurd (false≢true (ap is_end h))
only_exit ShutDown DidOpen status h = absurd (false≢true (ap is_end h))
only_exit ShutDown DidChange status h = absurd (false≢true (ap is_end h))
only_exit ShutDown DidClose status h = absurd (false≢true (ap is_end h))
only_exit ShutDown DidChangeWatchedFiles status h = absurd (false≢true (ap is_end h))
only_exit ShutDown (Question q) status h = absurd (false≢true (ap is_end h))
only_exit ShutDown Unknown status h = absurd (false≢true (ap is_end h))

exit_ends : (s : Stage) → is_end (notification_decision s Exit) ≡ true
unfolding is_end
exit_ends New = refl
exit_ends Ready = refl
exit_ends ShutDown = refl

-- `exit` is neither acted on nor ignored
pub exit_goes : (s : Stage) (m : Method) → notification_decision s m ≡ Go → m ≡ Exit → ⊥
unfolding is_end
exit_goes s m is exit = false≢true (sym (ap is_end (subst (λ x. notification_decision s x ≡ Go) exit is)) ∙ exit_ends s)

pub exit_counts : (s : Stage) (m : Method) → notification_decision s m ≡ Ignore → m ≡ Exit → ⊥
unfolding is_end
exit_counts s m is exit = false≢true (sym (ap is_end (subst (λ x. notification_decision s x ≡ Ignore) exit is)) ∙ exit_ends s)

pub exit_stands : (s : Stage) (m : Method) (why : Refusal) → notification_decision s m ≡ Refuse why → m ≡ Exit → ⊥
unfolding is_end
exit_stands s m why is exit = false≢true (sym (ap is_end (subst (λ x. notification_decision s x ≡ Refuse why) exit is)) ∙ exit_ends s)

-- news don't end the server
pub no_end : (outcome : Outcome) (why : Type 0) → IsNews outcome → IfEnded outcome why
no_end (Reply reply) why h = tt
no_end (Ask question request) why h = tt
no_end Changed why h = tt
no_end Begun why h = tt
no_end (Files uris) why h = tt
no_end Nothing why h = tt
no_end (Ended status) why h = absurd h

-- an edit is neither of the other news
pub edit_news : (outcome : Outcome) → IsEdit outcome → IsNews outcome
edit_news (Reply reply) h = absurd h
edit_news (Ask question request) h = absurd h
edit_news Changed h = tt
edit_news Begun h = absurd h
edit_news (Files uris) h = absurd h
edit_news Nothing h = tt
edit_news (Ended status) h = absurd h

pub not_begun : (outcome : Outcome) (why : Type 0) → IsEdit outcome → IfBegun outcome why
not_begun (Reply reply) why h = tt
not_begun (Ask question request) why h = tt
not_begun Changed why h = tt
not_begun Begun why h = absurd h
not_begun (Files uris) why h = tt
not_begun Nothing why h = tt
not_begun (Ended status) why h = tt

pub no_files : (outcome : Outcome) (P : List (List ℕ) → Type 0) → IsEdit outcome → IfFiles outcome P
no_files (Reply reply) P h = tt
no_files (Ask question request) P h = tt
no_files Changed P h = tt
no_files Begun P h = tt
no_files (Files uris) P h = absurd h
no_files Nothing P h = tt
no_files (Ended status) P h = tt

-- another reason
pub begun_for : (outcome : Outcome) (why other : Type 0) → (why → other) → IfBegun outcome why → IfBegun outcome other
begun_for (Reply reply) why other f h = tt
begun_for (Ask question request) why other f h = tt
begun_for Changed why other f h = tt
begun_for Begun why other f h = f h
begun_for (Files uris) why other f h = tt
begun_for Nothing why other f h = tt
begun_for (Ended status) why other f h = tt

pub files_for : (outcome : Outcome) (P Q : List (List ℕ) → Type 0) → ((uris : List (List ℕ)) → P uris → Q uris) → IfFiles outcome P → IfFiles outcome Q
files_for (Reply reply) P Q f h = tt
files_for (Ask question request) P Q f h = tt
files_for Changed P Q f h = tt
files_for Begun P Q f h = tt
files_for (Files uris) P Q f h = f (map string_bytes uris.items) h
files_for Nothing P Q f h = tt
files_for (Ended status) P Q f h = tt

is_ignore : Decision → Bool
is_ignore Go = false
is_ignore (Refuse why) = false
is_ignore Ignore = true
is_ignore (End status) = false

ignoring : (m : Method) → ready_decision m ≡ Ignore → (params : Data) (encoding : Encoding) (before : Documents) → IsIgnored m params encoding before
unfolding is_ignore
ignoring DidOpen h params encoding before = absurd (false≢true (ap is_ignore h))
ignoring DidChange h params encoding before = absurd (false≢true (ap is_ignore h))
ignoring DidClose h params encoding before = absurd (false≢true (ap is_ignore h))
ignoring DidChangeWatchedFiles h params encoding before = absurd (false≢true (ap is_ignore h))
ignoring Initialized h params encoding before = absurd (false≢true (ap is_ignore h))
ignoring Initialize h params encoding before = tt
ignoring Shutdown h params encoding before = tt
ignoring Exit h params encoding before = tt
ignoring (Question q) h params encoding before = tt
ignoring Unknown h params encoding before = tt

with_params : (m : Method) (message : Data) (encoding : Encoding) (before : Documents) (found : Option Data) → get (codes "params") message ≡ found → ((params : Data) → IsIgnored m params encoding before)
    → IsIgnoredIn m message encoding before
with_params m message encoding before None is each = inl is
with_params m message encoding before (Some params) is each = inr (params, (is, each params))

-- while the session is ready, a notification that is ignored by the tables has no effect in any case
pub ignored : (s : Stage) (m : Method) (message : Data) (encoding : Encoding) (before : Documents) → s ≡ Ready → notification_decision s m ≡ Ignore → IsIgnoredIn m message encoding before
ignored s m message encoding before ready is =
    with_params m message encoding before (get (codes "params") message) refl
    (λ params. ignoring m (subst (λ x. notification_decision x m ≡ Ignore) ready is) params encoding before)

-- another reason
pub only_for : (why other : Type 0) (out : Outcome) → (why → other) → IsNothingOnlyFor why out → IsNothingOnlyFor other out
only_for why other (Reply reply) f h = tt
only_for why other (Ask question asked) f h = tt
only_for why other Changed f h = tt
only_for why other Begun f h = tt
only_for why other (Files uris) f h = tt
only_for why other Nothing f h = f h
only_for why other (Ended status) f h = tt

pub no_change : (encoding : Encoding) (params : Data) (before : Documents) (uri : List ℕ) (changes : List Change) → string_at (codes "/textDocument/uri") params ≡ Some uri → AreListedIn params changes
    → IsNotApplied encoding uri changes before → HasNoChange encoding params before
no_change encoding params before uri changes named listed h = elim h [
  | inl none ↦ closed named none
  | inr w ↦ reversed named w.1.0 listed w.1.1
]

is_refusal : Decision → Bool
is_refusal Go = false
is_refusal (Refuse why) = true
is_refusal Ignore = false
is_refusal (End status) = false

ready_takes : (m : Method) → is_refusal (ready_decision m) ≡ false
unfolding is_refusal
ready_takes Initialize = refl
ready_takes Initialized = refl
ready_takes Shutdown = refl
ready_takes Exit = refl
ready_takes DidOpen = refl
ready_takes DidChange = refl
ready_takes DidClose = refl
ready_takes DidChangeWatchedFiles = refl
ready_takes (Question q) = refl
ready_takes Unknown = refl

-- no notification is refused
pub never_refused : (s : Stage) (m : Method) (why : Refusal) → s ≡ Ready → notification_decision s m ≡ Refuse why → ⊥
unfolding is_refusal
never_refused s m why ready is = false≢true (sym (ready_takes m) ∙ ap is_refusal (subst (λ x. notification_decision x m ≡ Refuse why) ready is))

-- a message has one method
pub one_name : (found : Option (List ℕ)) (a b : List ℕ) → found ≡ Some a → found ≡ Some b → a ≡ b
one_name found a b one two = cc
