-- The diagnostics that are sent to a client (Language Server Protocol 3.17, "PublishDiagnostics Notification", "ShowMessage Notification").
use Rattle.std.specs.Prelude.{◌≡◌, ◌⊎◌, ℕ, zero, suc, false, true, List, [], ◌∷◌, ◌++◌, Option, None, Some, codes, length, map, slice_index_or}
use Rattle.serde_json.specs.Data.{Data, array, member, no_members, number, object, string, unsigned}
use Rattle.serde_json.specs.View.{items_of}
use Rattle.hm_lsp_positions.specs.declared.units.Encoding.{Encoding}
use Rattle.hm_lsp_results.specs.Asked.{HasUri}
use Rattle.hm_lsp_session.specs.Replies.{notice_data}
use Rattle.hm_lsp_session.specs.Steps.{stage_of}
use Rattle.hm_lsp_session.specs.Effects.{encoding_of}
use Rattle.hm_lsp_session.specs.declared.stages.Stage.TheVariants.{Ready}
use Rattle.hm_lsp_values.specs.Diagnostics.{diagnostic_data}
use Rattle.hm_service.specs.Checks.{IsHeldCheck}
use Rattle.hm_service_messages.specs.declared.diagnostic.Diagnostic.{Diagnostic}
use Rattle.hm_service_places.specs.declared.checked.Checked.{Checked}
use Rattle.hm_service_sources.specs.declared.held.HeldSource.{HeldSource}
use Rattle.hm_service_stand_ins.specs.StandIns.{MissesSome}
use Rattle.hm_lsp_server.specs.Second.{AreGoodSince, AreShownAt, IsSecondCheck, findings_in, workers}
use Rattle.hm_lsp_server.specs.Servers.{checked_of, good_of, held_of, is_changed, session_of, shown_of, sources_of}
use Rattle.hm_lsp_server.specs.declared.second.SecondCheck.{SecondCheck}
use Rattle.hm_lsp_server.specs.declared.server.Server.{Server}
use Rattle.hm_lsp_sources.specs.declared.source.Source.{Source}

abbrev pub diagnostics_data : Encoding → List Diagnostic → Data
diagnostics_data encoding ds = array (items_of (map (diagnostic_data encoding) ds))

-- the notification with the diagnostics of the source with this URI
abbrev pub diagnostics_notice : Encoding → List ℕ → List Diagnostic → Data
diagnostics_notice encoding uri ds =
    notice_data (codes "textDocument/publishDiagnostics") (object (member (codes "diagnostics") (diagnostics_data encoding ds) (member (codes "uri") (string uri) no_members)))

-- if the client shows diagnostics of a source under a URI that isn't that of the source any more, it is sent that there are none
abbrev pub AreCleared : Encoding → Option (List ℕ) → List ℕ → List Data → Type 0
AreCleared encoding None uri sent = sent ≡ []
AreCleared encoding (Some old) uri sent = ((old ≡ uri) × (sent ≡ [])) ⊎ (¬ (old ≡ uri) × (sent ≡ diagnostics_notice encoding old [] ∷ []))

-- the diagnostics are sent, unless there are none and the client shows none under this URI
abbrev pub AreSent : Encoding → Option (List ℕ) → List ℕ → List Diagnostic → List Data → Type 0
AreSent encoding shown uri [] sent = ((shown ≡ Some uri) × (sent ≡ diagnostics_notice encoding uri [] ∷ [])) ⊎ (¬ (shown ≡ Some uri) × (sent ≡ []))
AreSent encoding shown uri (d ∷ ds) sent = sent ≡ diagnostics_notice encoding uri (d ∷ ds) ∷ []

-- the client shows them under this URI, unless there are none
abbrev pub shown_under : List ℕ → List Diagnostic → Option (List ℕ)
shown_under uri [] = None
shown_under uri (d ∷ ds) = Some uri

-- what is sent of the source with this number and URI, and under which URI the client shows diagnostics of it then
pub record IsSentOf (encoding : Encoding) (held : List HeldSource) (c : Checked) (second : Option SecondCheck) (was : Option (List ℕ)) (n : ℕ) (uri : List ℕ) (is : Option (List ℕ)) (sent : List Data) : Type 0 where
  pub ds : List Diagnostic
  pub found : AreShownAt held c second n ds
  pub are_sent : AreSent encoding was uri ds sent
  pub shows : is ≡ shown_under uri ds

-- what is sent of the source with this number, by the URI under which the client shows diagnostics of it
pub record IsTold (encoding : Encoding) (sources : List Source) (held : List HeldSource) (c : Checked) (second : Option SecondCheck) (was : Option (List ℕ)) (n : ℕ) (is : Option (List ℕ)) (sent : List Data) : Type 0 where
  pub uri : List ℕ
  pub first : List Data
  pub later : List Data
  pub named : HasUri sources n uri
  pub cleared : AreCleared encoding was uri first
  pub are_sent : IsSentOf encoding held c second was n uri is later
  pub whole : sent ≡ first ++ later

-- the same of the first n sources, in order
abbrev pub AreTold : (ℕ → Option (List ℕ) → List Data → Type 0) → ℕ → List (Option (List ℕ)) → List Data → Type 0
AreTold P zero shown sent = (shown ≡ []) × (sent ≡ [])
AreTold P (suc n) shown sent =
    (before : List (Option (List ℕ))) × ((last : Option (List ℕ)) × ((first : List Data) × ((later : List Data) × ((shown ≡ before ++ last ∷ []) × ((sent ≡ first ++ later) × (AreTold P n before first × P n last later))))))

-- the check failed: memory ran out, no thread could start, or two results contradict each other
abbrev pub no_check_notice : Data
no_check_notice = notice_data (codes "window/showMessage")
    (object (member (codes "message") (string (codes "hmc couldn't check these sources. Memory may have run out")) (member (codes "type") (number (unsigned 1)) no_members)))

-- the diagnostics of the texts that are held now, by a check of them and by a second one, if there is one
pub record AreOfCheck (before after : Server) (c : Checked) (second : Option SecondCheck) (new : List Data) : Type 0 where
  pub checked : checked_of after ≡ Some c
  pub check : IsHeldCheck workers (held_of after) c
  pub told : AreTold (λ n. IsTold (encoding_of (session_of after)) (sources_of after) (held_of after) c second (slice_index_or (shown_of before) n None) n) (length (sources_of after)) (shown_of after) new

-- what is sent after a change: the diagnostics of all sources by both checks, or that a check failed. If it is the second, which only a first one needs that misses some, those of the first follow
pub data IsShown (before after : Server) (new : List Data) : Type 0 where
  no_check : checked_of after ≡ None → new ≡ no_check_notice ∷ [] → shown_of after ≡ shown_of before → IsShown before after new
  no_second : {c : Checked} {rest : List Data} → MissesSome (findings_in c) (held_of after) → new ≡ no_check_notice ∷ rest → AreOfCheck before after c None rest → IsShown before after new
  told : {c : Checked} {second : Option SecondCheck} → IsSecondCheck (held_of after) c (good_of after) second → AreOfCheck before after c second new → IsShown before after new

-- nothing is another but under which URIs the client shows diagnostics
pub record IsSameButShown (before after : Server) : Type 0 where
  pub session : session_of after ≡ session_of before
  pub sources : sources_of after ≡ sources_of before
  pub held : held_of after ≡ held_of before
  pub good : good_of after ≡ good_of before
  pub checked : checked_of after ≡ checked_of before
  pub changed : is_changed after ≡ is_changed before

-- what is sent: nothing while the client isn't ready or if the texts are those of the last time, and else the diagnostics of all sources, or that the check failed
pub data IsPublished (before after : Server) (new : List Data) : Type 0 where
  nothing : (is_changed before ≡ false) ⊎ (¬ (stage_of (session_of before) ≡ Ready)) → new ≡ [] → shown_of after ≡ shown_of before → good_of after ≡ good_of before → is_changed after ≡ is_changed before → IsPublished before after new
  changed : is_changed before ≡ true → stage_of (session_of before) ≡ Ready → is_changed after ≡ false → AreGoodSince (held_of after) (checked_of after) (good_of before) (good_of after) → IsShown before after new → IsPublished before after new
