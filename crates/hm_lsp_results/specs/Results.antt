-- The results of requests about the texts, and their replies (Language Server Protocol 3.17, "Hover Request", "Goto Definition Request"; "Code Action Request" is in Actions, "Find References Request" and "Document Highlights Request" are in References, "Document Symbols Request" and "Workspace Symbols Request" in Symbols, "Rename Request" in Renames, "Prepare Rename Request" in Prepared, and "Completion Request" in Completions).
use Rattle.std.specs.Prelude.{◌≡◌, ◌≤◌, ◌⊎◌, ℕ, negsuc, Bool, true, List, Option, None, Some, codes, length, map, option_and_then, slice_get, string_bytes}
use Rattle.serde_json.specs.Data.{Data, null}
use Rattle.serde_json.specs.Find.{as_bool, pointer}
use Rattle.hm_lsp_positions.specs.declared.changes.Range.{Range}
use Rattle.hm_lsp_positions.specs.declared.positions.Position.{Position}
use Rattle.hm_lsp_positions.specs.declared.units.Encoding.{Encoding}
use Rattle.hm_lsp_session.specs.Params.{IsPositionIn, IsRangeIn, string_at}
use Rattle.hm_lsp_session.specs.Replies.{refusal_data, reply_data}
use Rattle.hm_lsp_session.specs.Stages.{code_of}
use Rattle.hm_lsp_session.specs.declared.stages.Question.{Question}
use Rattle.hm_lsp_session.specs.declared.stages.Question.TheVariants.{CodeAction, Completion, Definition, DocumentHighlight, DocumentSymbol, Hover, PrepareRename, References, Rename, WorkspaceSymbol}
use Rattle.hm_lsp_session.specs.declared.stages.Refusal.TheVariants.{InvalidParams, RequestFailed}
use Rattle.hm_lsp_values.specs.Names.{IsHover, IsLocation}
use Rattle.hm_service_messages.specs.declared.spots.Bound.{Bound}
use Rattle.hm_service_places.specs.declared.checked.Checked.{Checked}
use Rattle.hm_service_places.specs.declared.places.AtPlace.{AtPlace}
use Rattle.hm_service_rename.specs.declared.results.RenameRefusal.{RenameRefusal}
use Rattle.hm_service_sources.specs.declared.held.HeldSource.{HeldSource}
use Rattle.hm_lsp_results.specs.Actions.{IsActionsResult}
use Rattle.hm_lsp_results.specs.Asked.{HasNothingAt, HasUri, IsNamedAt, IsSourceIn, Subject}
use Rattle.hm_lsp_results.specs.Completions.{IsCompletionsResult}
use Rattle.hm_lsp_results.specs.Prepared.{IsNotRenamableAt, IsPrepareValue}
use Rattle.hm_lsp_results.specs.References.{IsHighlightsResult, IsReferencesResult}
use Rattle.hm_lsp_results.specs.Renames.{IsRefusedAt, IsRenameValue, sentence_of}
use Rattle.hm_lsp_results.specs.Symbols.{AreFound, IsSymbolsResult}
use Rattle.hm_lsp_sources.specs.declared.source.Source.{Source}

-- Hover

-- what is shown of the name at the position, or null if there is none
pub data IsHoverResult (encoding : Encoding) (held : List HeldSource) (c : Checked) (n : ℕ) (p : Position) (value : Data) : Type 0 where
  shown : {a : AtPlace} → IsNamedAt encoding held c n p a → IsHover (string_bytes a.text) value → IsHoverResult encoding held c n p value
  not_shown : HasNothingAt encoding held c n p → value ≡ null → IsHoverResult encoding held c n p value

-- Definition

-- the place in the text that stands for its source, or null if that source isn't there
pub data IsBoundResult (encoding : Encoding) (sources : List Source) (held : List HeldSource) (b : Bound) (value : Data) : Type 0 where
  located : {uri : List ℕ} {source : HeldSource} → HasUri sources b.source uri → slice_get held b.source ≡ Some source → IsLocation encoding uri source.standing.items b value → IsBoundResult encoding sources held b value
  elsewhere : (length held ≤ b.source) ⊎ (length sources ≤ b.source) → value ≡ null → IsBoundResult encoding sources held b value

abbrev pub IsBoundValue : Encoding → List Source → List HeldSource → Option Bound → Data → Type 0
IsBoundValue encoding sources held None value = value ≡ null
IsBoundValue encoding sources held (Some b) value = IsBoundResult encoding sources held b value

-- where the name at the position is bound, or null if it is bound in no source or there is no name
pub data IsDefinitionResult (encoding : Encoding) (sources : List Source) (held : List HeldSource) (c : Checked) (n : ℕ) (p : Position) (value : Data) : Type 0 where
  bound : {a : AtPlace} → IsNamedAt encoding held c n p a → IsBoundValue encoding sources held a.bound value → IsDefinitionResult encoding sources held c n p value
  not_bound : HasNothingAt encoding held c n p → value ≡ null → IsDefinitionResult encoding sources held c n p value

-- Replies

-- what a request has at a path, or that it has nothing of the kind there
abbrev pub HasAt : {X : Type 0} → (Data → X → Type 0) → List ℕ → Data → Option X → Type 0
HasAt IsIn path request (Some x) = (d : Data) × (pointer path request ≡ Some d) × IsIn d x
HasAt {X} IsIn path request None = (d : Data) (x : X) → pointer path request ≡ Some d → ¬ (IsIn d x)

abbrev pub HasPosition : Data → Option Position → Type 0
HasPosition request p = HasAt IsPositionIn (codes "/params/position") request p

abbrev pub HasRange : Data → Option Range → Type 0
HasRange request r = HasAt IsRangeIn (codes "/params/range") request r

-- a result for what the request has, or that its parameters aren't valid
abbrev pub IsResultFor : {X : Type 0} → (X → Data → Type 0) → Option X → Option Data → Type 0
IsResultFor P None result = result ≡ None
IsResultFor P (Some x) None = ⊥
IsResultFor P (Some x) (Some value) = P x value

abbrev pub IsResultAtPosition : (Position → Data → Type 0) → Data → Option Data → Type 0
IsResultAtPosition P request result = (p : Option Position) × (HasPosition request p × IsResultFor P p result)

abbrev pub declares : Option Bool → Bool
declares None = true
declares (Some b) = b

-- declarations are among the references, unless the request says that they aren't
abbrev pub with_declarations : Data → Bool
with_declarations request = declares (option_and_then as_bool (pointer (codes "/params/context/includeDeclaration") request))

-- the result for the new name of a request, or that its parameters aren't valid
abbrev pub IsResultNamed : (List ℕ → Option Data → Type 0) → Option (List ℕ) → Option Data → Type 0
IsResultNamed P None result = result ≡ None
IsResultNamed P (Some new) result = P new result

abbrev pub IsRenameRequestResult : Subject → ℕ → Data → Option Data → Type 0
IsRenameRequestResult asked n request result = IsResultNamed (λ new. IsResultAtPosition (IsRenameValue asked n new) request) (string_at (codes "/params/newName") request) result

-- the result of a request about source number n, or that its parameters aren't valid
abbrev pub IsResultOf : Subject → Question → ℕ → Data → Option Data → Type 0
IsResultOf asked Hover n request result = IsResultAtPosition (IsHoverResult asked.encoding asked.held asked.checked n) request result
IsResultOf asked Definition n request result = IsResultAtPosition (IsDefinitionResult asked.encoding asked.sources asked.held asked.checked n) request result
IsResultOf asked References n request result = IsResultAtPosition (IsReferencesResult asked (with_declarations request) n) request result
IsResultOf asked DocumentHighlight n request result = IsResultAtPosition (IsHighlightsResult asked n) request result
IsResultOf asked DocumentSymbol n request result = (value : Data) × (IsSymbolsResult asked n value × (result ≡ Some value))
IsResultOf asked CodeAction n request result = (r : Option Range) × (HasRange request r × IsResultFor (IsActionsResult asked n) r result)
IsResultOf asked Rename n request result = IsRenameRequestResult asked n request result
IsResultOf asked PrepareRename n request result = IsResultAtPosition (IsPrepareValue asked n) request result
IsResultOf asked Completion n request result = IsResultAtPosition (IsCompletionsResult asked n) request result
-- it is about no source
IsResultOf asked WorkspaceSymbol n request result = result ≡ None

-- by whether the document that the request names is a source
abbrev pub IsResultAt : Subject → Question → Option ℕ → Data → Option Data → Type 0
IsResultAt asked question None request result = result ≡ None
IsResultAt asked question (Some n) request result = IsResultOf asked question n request result

-- the result of a request about a document
pub record IsDocumentResult (asked : Subject) (question : Question) (request : Data) (result : Option Data) : Type 0 where
  pub source : Option ℕ
  pub is_source : IsSourceIn asked.sources request source
  pub is : IsResultAt asked question source request result

-- only one request is about the whole folder
abbrev pub IsResult : Subject → Question → Data → Option Data → Type 0
IsResult asked WorkspaceSymbol request result = IsResultFor (AreFound asked) (string_at (codes "/params/query") request) result
IsResult asked question request result = IsDocumentResult asked question request result

-- the reply to a request for which memory ran out, no thread could start, or two results contradict each other
abbrev pub failure_data : Data → Data
failure_data id = refusal_data id (negsuc 32602) (codes "hmc couldn't reply. Memory may have run out")

-- the reply with a result, or that the parameters aren't valid
abbrev pub reply_with : Data → Option Data → Data
reply_with id (Some result) = reply_data id result
reply_with id None = refusal_data id (code_of InvalidParams) (codes "these parameters aren't valid")

-- the rename of a request about source number n is refused for this reason
pub record IsRefusedIn (asked : Subject) (n : ℕ) (request : Data) (refusal : RenameRefusal) : Type 0 where
  pub new : List ℕ
  pub position : Position
  pub named : string_at (codes "/params/newName") request ≡ Some new
  pub at : HasPosition request (Some position)
  pub is : IsRefusedAt asked n new position refusal

-- each rename of the name at the position of a request about source number n is refused for this reason
pub record IsNotRenamableIn (asked : Subject) (n : ℕ) (request : Data) (refusal : RenameRefusal) : Type 0 where
  pub position : Position
  pub at : HasPosition request (Some position)
  pub is : IsNotRenamableAt asked n position refusal

-- the request is a rename, or is for the name that one is of, and is refused for this reason
pub data IsRefusedOf (asked : Subject) (question : Question) (n : ℕ) (request : Data) (refusal : RenameRefusal) : Type 0 where
  renamed : question ≡ Rename → IsRefusedIn asked n request refusal → IsRefusedOf asked question n request refusal
  prepared : question ≡ PrepareRename → IsNotRenamableIn asked n request refusal → IsRefusedOf asked question n request refusal

-- the same of a request about a document
pub record IsRefusedRename (asked : Subject) (question : Question) (request : Data) (refusal : RenameRefusal) : Type 0 where
  pub source : ℕ
  pub is_source : IsSourceIn asked.sources request (Some source)
  pub is : IsRefusedOf asked question source request refusal

-- the reply to a request for which the server failed, which has a result or parameters that aren't valid, or whose rename is refused
abbrev pub IsReply : Subject → Question → Data → Data → Data → Type 0
IsReply asked question request id reply =
    (reply ≡ failure_data id) ⊎ (((result : Option Data) × (IsResult asked question request result × (reply ≡ reply_with id result)))
    ⊎ ((refusal : RenameRefusal) × (IsRefusedRename asked question request refusal × (reply ≡ refusal_data id (code_of RequestFailed) (sentence_of refusal)))))
