-- The units of columns that a client and a server agree on, and what the server says that it does (Language Server Protocol 3.17, "Position Encoding Kind", "Initialize Request").
use Rattle.std.specs.Prelude.{◌≡◌, ◌⊎◌, ℕ, true, List, Option, None, Some, codes, option_and_then}
use Rattle.serde_json.specs.Data.{Data, Items, boolean, item, member, no_items, no_members, null, number, object, string, unsigned}
use Rattle.serde_json.specs.Find.{as_array, as_str, get, pointer}
use Rattle.serde_json.specs.Read.{read}
use Rattle.serde_json.specs.View.{view}
use Rattle.serde_json.specs.declared.value.Value.{Value}
use Rattle.hm_lsp_positions.specs.declared.units.Encoding.{Encoding}
use Rattle.hm_lsp_positions.specs.declared.units.Encoding.TheVariants.{Utf16, Utf32, Utf8}
use Rattle.hm_lsp_session.specs.declared.session.Outcome.{Outcome}
use Rattle.hm_lsp_session.specs.declared.session.Outcome.TheVariants.{Reply}
use Rattle.hm_lsp_session.specs.declared.stages.Stage.{Stage}
use Rattle.hm_lsp_session.specs.declared.stages.Stage.TheVariants.{New, Ready}

-- the name of units in messages
abbrev pub unit_name : Encoding → List ℕ
unit_name Utf8 = codes "utf-8"
unit_name Utf16 = codes "utf-16"
unit_name Utf32 = codes "utf-32"

-- one of the values is this text
abbrev pub HasText : List ℕ → Items → Type 0
HasText text no_items = ⊥
HasText text (item d ds) = (as_str d ≡ Some text) ⊎ HasText text ds

-- the parameters of `initialize` offer units of this name
pub record OffersUnits (name : List ℕ) (params : Data) : Type 0 where
  pub offered : Items
  pub listed : option_and_then as_array (pointer (codes "/capabilities/general/positionEncodings") params) ≡ Some offered
  pub has : HasText name offered

-- the units are those of UTF-8 if the client offers them, and else those of UTF-16, which each client has
pub data IsAgreed (params : Data) : Encoding → Type 0 where
  utf8 : OffersUnits (codes "utf-8") params → IsAgreed params Utf8
  utf16 : ¬ (OffersUnits (codes "utf-8") params) → IsAgreed params Utf16

-- what the server does, with the name of its units, and how it completes and renames
abbrev pub capabilities_data : List ℕ → Data → Data → Data
capabilities_data units completions renames =
    object (member (codes "codeActionProvider") (boolean true) (member (codes "completionProvider") completions (member (codes "definitionProvider") (boolean true)
    (member (codes "documentHighlightProvider") (boolean true) (member (codes "documentSymbolProvider") (boolean true) (member (codes "hoverProvider") (boolean true)
    (member (codes "positionEncoding") (string units) (member (codes "referencesProvider") (boolean true) (member (codes "renameProvider") renames
    (member (codes "textDocumentSync") (object (member (codes "change") (number (unsigned 2)) (member (codes "openClose") (boolean true) no_members)))
    (member (codes "workspaceSymbolProvider") (boolean true) no_members)))))))))))

-- the result of `initialize` lists what the server does, and these units
pub record ListsUnits (units : Encoding) (answer : Data) : Type 0 where
  pub completions : Data
  pub renames : Data
  pub lists : get (codes "capabilities") answer ≡ Some (capabilities_data (unit_name units) completions renames)
  pub says : get (codes "positionEncoding") (capabilities_data (unit_name units) completions renames) ≡ Some (string (unit_name units))

abbrev pub SaysUnits : Encoding → Data → Type 0
SaysUnits units reply = (answer : Data) × ((get (codes "result") reply ≡ Some answer) × ListsUnits units answer)

-- the parameters of a message, or null
abbrev pub params_in : Option Data → Data
params_in None = null
params_in (Some params) = params

-- the units of a session after a message: those of before, or as it begins those that both agree on and that the reply says
pub data HaveUnits (message : Data) (outcome : Outcome) (before after : Stage) (was is : Encoding) : Type 0 where
  kept : is ≡ was → (before ≡ New → after ≡ New) → HaveUnits message outcome before after was is
  agreed : {reply : Value} → before ≡ New → after ≡ Ready → outcome ≡ Reply reply → IsAgreed (params_in (get (codes "params") message)) is → SaysUnits is (view reply) → HaveUnits message outcome before after was is

-- the same after the body of a frame
pub data HaveUnitsAfter (body : List ℕ) (outcome : Outcome) (before after : Stage) (was is : Encoding) : Type 0 where
  unread : is ≡ was → (before ≡ New → after ≡ New) → HaveUnitsAfter body outcome before after was is
  understood : {message : Data} → read body ≡ Some message → HaveUnits message outcome before after was is → HaveUnitsAfter body outcome before after was is
