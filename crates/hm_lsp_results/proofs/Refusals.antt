-- Requests without a result.
use Rattle.std.proofs.Common.{◌≡◌, ℕ, List, Option, Some, Result, Ok, Err, IfOk, codes, refl, subst, sym}
use Rattle.std.specs.Prelude.{IfErr, option_map}
use Rattle.serde_json.specs.Data.{Data}
use Rattle.serde_json.specs.View.{view}
use Rattle.serde_json.specs.declared.value.Value.{Value}
use Rattle.hm_lsp_positions.specs.declared.positions.Position.{Position}
use Rattle.hm_lsp_session.specs.Params.{string_at}
use Rattle.hm_lsp_session.specs.declared.stages.Question.{Question}
use Rattle.hm_lsp_session.specs.declared.stages.Question.TheVariants.{CodeAction, Completion, Definition, DocumentHighlight, DocumentSymbol, Hover, PrepareRename, References, Rename, WorkspaceSymbol}
use Rattle.hm_lsp_results.specs.Asked.{IsSourceIn, Subject}
use Rattle.hm_lsp_results.specs.Prepared.{IsNotRenamableAt, IsPrepareValue}
use Rattle.hm_lsp_results.specs.Renames.{IsFaultBy, IsRefusedAt}
use Rattle.hm_lsp_results.specs.Results.{HasPosition, IsDocumentResult, IsNotRenamableIn, IsRefusedIn, IsRefusedOf, IsRefusedRename, IsRenameRequestResult, IsResult, IsResultAtPosition, IsResultOf, prepared, renamed}
use Rattle.hm_lsp_results.specs.declared.faults.RequestFault.{RequestFault}
use Rattle.hm_lsp_results.specs.declared.faults.RequestFault.TheVariants.{Refused, Server}
use Rattle.hm_service_rename.specs.declared.results.RenameRefusal.{RenameRefusal}

pub server_fault : (P : RenameRefusal → Type 0) (fault : RequestFault) → fault ≡ Server → IsFaultBy P fault
server_fault P fault is = subst (IsFaultBy P) (sym is) tt

weaker_ok : {A E : Type 0} (P Q : A → Type 0) (r : Result A E) → ((a : A) → P a → Q a) → IfOk r P → IfOk r Q
weaker_ok P Q (Ok a) f h = f a h
weaker_ok P Q (Err e) f h = h

weaker_err : {A E : Type 0} (P Q : E → Type 0) (r : Result A E) → ((e : E) → P e → Q e) → IfErr r P → IfErr r Q
weaker_err P Q (Ok a) f h = h
weaker_err P Q (Err e) f h = f e h

weaker_fault : (P Q : RenameRefusal → Type 0) → ((refusal : RenameRefusal) → P refusal → Q refusal) → (fault : RequestFault) → IsFaultBy P fault → IsFaultBy Q fault
weaker_fault P Q f Server h = tt
weaker_fault P Q f (Refused refusal) h = f refusal h

pub refused_in : (asked : Subject) (n : ℕ) (request : Data) (new : List ℕ) (p : Position) (fault : RequestFault) → string_at (codes "/params/newName") request ≡ Some new → HasPosition request (Some p) → IsFaultBy (IsRefusedAt asked n new p) fault
    → IsFaultBy (IsRefusedIn asked n request) fault
refused_in asked n request new p fault named at h =
    weaker_fault (IsRefusedAt asked n new p) (IsRefusedIn asked n request) (λ refusal is. record { new = new; position = p; named = named; at = at; is = is }) fault h

-- a request that is a rename
pub renamed_of : (asked : Subject) (question : Question) (n : ℕ) (request : Data) (r : Result (Option Value) RequestFault) → question ≡ Rename → IfOk r (λ made. IsRenameRequestResult asked n request (option_map view made))
    → IfOk r (λ made. IsResultOf asked question n request (option_map view made))
renamed_of asked question n request r is h =
    weaker_ok (λ made. IsRenameRequestResult asked n request (option_map view made)) (λ made. IsResultOf asked question n request (option_map view made)) r
    (λ made k. subst (λ (q : Question). IsResultOf asked q n request (option_map view made)) (sym is) k) h

pub refused_of : (asked : Subject) (question : Question) (n : ℕ) (request : Data) (r : Result (Option Value) RequestFault) → question ≡ Rename → IfErr r (IsFaultBy (IsRefusedIn asked n request)) → IfErr r (IsFaultBy (IsRefusedOf asked question n request))
refused_of asked question n request r is h =
    weaker_err (IsFaultBy (IsRefusedIn asked n request)) (IsFaultBy (IsRefusedOf asked question n request)) r
    (weaker_fault (IsRefusedIn asked n request) (IsRefusedOf asked question n request) (λ refusal k. renamed is k)) h

-- a request for the name that a rename is of
pub not_renamable_in : (asked : Subject) (n : ℕ) (request : Data) (p : Position) (fault : RequestFault) → HasPosition request (Some p) → IsFaultBy (IsNotRenamableAt asked n p) fault → IsFaultBy (IsNotRenamableIn asked n request) fault
not_renamable_in asked n request p fault at h = weaker_fault (IsNotRenamableAt asked n p) (IsNotRenamableIn asked n request) (λ refusal is. record { position = p; at = at; is = is }) fault h

pub prepared_of : (asked : Subject) (question : Question) (n : ℕ) (request : Data) (r : Result (Option Value) RequestFault) → question ≡ PrepareRename → IfOk r (λ made. IsResultAtPosition (IsPrepareValue asked n) request (option_map view made))
    → IfOk r (λ made. IsResultOf asked question n request (option_map view made))
prepared_of asked question n request r is h =
    weaker_ok (λ made. IsResultAtPosition (IsPrepareValue asked n) request (option_map view made)) (λ made. IsResultOf asked question n request (option_map view made)) r
    (λ made k. subst (λ (q : Question). IsResultOf asked q n request (option_map view made)) (sym is) k) h

pub not_renamable_of : (asked : Subject) (question : Question) (n : ℕ) (request : Data) (r : Result (Option Value) RequestFault) → question ≡ PrepareRename → IfErr r (IsFaultBy (IsNotRenamableIn asked n request))
    → IfErr r (IsFaultBy (IsRefusedOf asked question n request))
not_renamable_of asked question n request r is h =
    weaker_err (IsFaultBy (IsNotRenamableIn asked n request)) (IsFaultBy (IsRefusedOf asked question n request)) r
    (weaker_fault (IsNotRenamableIn asked n request) (IsRefusedOf asked question n request) (λ refusal k. prepared is k)) h

-- a request about a source
pub result_of_document : (asked : Subject) (question : Question) (n : ℕ) (request : Data) (r : Result (Option Value) RequestFault) → IsSourceIn asked.sources request (Some n) → IfOk r (λ made. IsResultOf asked question n request (option_map view made))
    → IfOk r (λ made. IsDocumentResult asked question request (option_map view made))
result_of_document asked question n request r source h =
    weaker_ok (λ made. IsResultOf asked question n request (option_map view made)) (λ made. IsDocumentResult asked question request (option_map view made)) r (λ made k. record { source = Some n; is_source = source; is = k }) h

pub refused_document : (asked : Subject) (question : Question) (n : ℕ) (request : Data) (r : Result (Option Value) RequestFault) → IsSourceIn asked.sources request (Some n) → IfErr r (IsFaultBy (IsRefusedOf asked question n request))
    → IfErr r (IsFaultBy (IsRefusedRename asked question request))
refused_document asked question n request r source h =
    weaker_err (IsFaultBy (IsRefusedOf asked question n request)) (IsFaultBy (IsRefusedRename asked question request)) r
    (weaker_fault (IsRefusedOf asked question n request) (IsRefusedRename asked question request) (λ refusal k. record { source = n; is_source = source; is = k })) h

-- only one request is about the whole folder
in_document : (asked : Subject) (question : Question) (request : Data) (result : Option Data) → ¬ (question ≡ WorkspaceSymbol) → IsDocumentResult asked question request result → IsResult asked question request result
in_document asked Hover request result other h = h
in_document asked Definition request result other h = h
in_document asked References request result other h = h
in_document asked DocumentHighlight request result other h = h
in_document asked DocumentSymbol request result other h = h
in_document asked CodeAction request result other h = h
in_document asked Rename request result other h = h
in_document asked PrepareRename request result other h = h
in_document asked Completion request result other h = h
in_document asked WorkspaceSymbol request result other h = absurd (other refl)

pub result_in_document : (asked : Subject) (question : Question) (request : Data) (r : Result (Option Value) RequestFault) → ¬ (question ≡ WorkspaceSymbol) → IfOk r (λ made. IsDocumentResult asked question request (option_map view made))
    → IfOk r (λ made. IsResult asked question request (option_map view made))
result_in_document asked question request r other h =
    weaker_ok (λ made. IsDocumentResult asked question request (option_map view made)) (λ made. IsResult asked question request (option_map view made)) r (λ made k. in_document asked question request (option_map view made) other k) h

pub result_in_folder : (asked : Subject) (question : Question) (request : Data) (result : Option Data) → question ≡ WorkspaceSymbol → IsResult asked WorkspaceSymbol request result → IsResult asked question request result
result_in_folder asked question request result is h = subst (λ (q : Question). IsResult asked q request result) (sym is) h
