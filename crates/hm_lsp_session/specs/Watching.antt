-- Whether a client watches files for the server (Language Server Protocol 3.17, "DidChangeWatchedFiles Notification").
use Rattle.std.specs.Prelude.{◌≡◌, ℕ, Bool, false, true, List, Some, codes, option_and_then}
use Rattle.serde_json.specs.Data.{Data}
use Rattle.serde_json.specs.Find.{as_bool, get, pointer}
use Rattle.serde_json.specs.Read.{read}
use Rattle.hm_lsp_session.specs.Units.{params_in}
use Rattle.hm_lsp_session.specs.declared.stages.Stage.{Stage}
use Rattle.hm_lsp_session.specs.declared.stages.Stage.TheVariants.{New, Ready}

-- the parameters of `initialize` say that the client can be asked to tell of changed files
abbrev pub OffersToWatch : Data → Type 0
OffersToWatch params = option_and_then as_bool (pointer (codes "/capabilities/workspace/didChangeWatchedFiles/dynamicRegistration") params) ≡ Some true

-- the client watches files exactly if it offers to
pub data IsWatching (params : Data) : Bool → Type 0 where
  yes : OffersToWatch params → IsWatching params true
  no : ¬ (OffersToWatch params) → IsWatching params false

-- whether the client watches files after a message: as before, or as the session begins, by what the client offers
pub data Watches (message : Data) (before after : Stage) (was is : Bool) : Type 0 where
  kept : is ≡ was → (before ≡ New → after ≡ New) → Watches message before after was is
  offered : before ≡ New → after ≡ Ready → IsWatching (params_in (get (codes "params") message)) is → Watches message before after was is

-- the same after the body of a frame
pub data WatchesAfter (body : List ℕ) (before after : Stage) (was is : Bool) : Type 0 where
  unread : is ≡ was → (before ≡ New → after ≡ New) → WatchesAfter body before after was is
  understood : {message : Data} → read body ≡ Some message → Watches message before after was is → WatchesAfter body before after was is
