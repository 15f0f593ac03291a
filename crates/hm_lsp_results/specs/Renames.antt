-- The edits of renames (Language Server Protocol 3.17, "Rename Request").
use Rattle.std.specs.Prelude.{◌≡◌, ⊤, ℕ, zero, suc, ◌++◌, All, List, [], ◌∷◌, Some, codes, length, slice_get}
use Rattle.std.specs.List.{AllZip}
use Rattle.serde_json.specs.Data.{Data, null}
use Rattle.hm_lsp_positions.specs.declared.positions.Position.{Position}
use Rattle.hm_lsp_values.specs.Renames.{IsReplacement, document_edit_data, workspace_edit_data}
use Rattle.hm_messages_json.specs.declared.message.Position.{Position as Place}
use Rattle.hm_service_rename.specs.Renames.{IsRefused, IsRename, IsRenameResult, place_of}
use Rattle.hm_service_places.specs.declared.checked.CheckedSet.{CheckedSet}
use Rattle.hm_service_rename.specs.declared.results.Rename.{Rename}
use Rattle.hm_service_rename.specs.declared.results.RenameRefusal.{RenameRefusal}
use Rattle.hm_service_rename.specs.declared.results.RenameRefusal.TheVariants.{NotAName, NotBound, NoName, NotRead, NotSame, NotWhole}
use Rattle.hm_service_rename.specs.declared.results.Renamed.{Renamed}
use Rattle.hm_service_sources.specs.declared.held.HeldSource.{HeldSource}
use Rattle.hm_uses_references.specs.declared.finding.Reference.{Reference}
use Rattle.hm_lsp_results.specs.Asked.{HasUri, Subject}
use Rattle.hm_lsp_results.specs.declared.faults.RequestFault.{RequestFault}
use Rattle.hm_lsp_results.specs.declared.faults.RequestFault.TheVariants.{Refused, Server}
use Rattle.hm_lsp_results.specs.References.{HasNoPlace, IsPlaceIn, in_bytes}

-- the new name in place of each of these references, in the text of source number n
pub record IsDocumentEdit (asked : Subject) (new : List ℕ) (n : ℕ) (references : List Reference) (value : Data) : Type 0 where
  pub uri : List ℕ
  pub source : HeldSource
  pub edits : List Data
  pub named : HasUri asked.sources n uri
  pub held : slice_get asked.held n ≡ Some source
  pub each : AllZip (IsReplacement asked.encoding source.text.items new) references edits
  pub whole : value ≡ document_edit_data uri edits

-- the edits of the first n sources, in order: one for each source that has references
pub data AreFirstEdits (asked : Subject) (new : List ℕ) : ℕ → List Reference → List Data → Type 0 where
  none : AreFirstEdits asked new zero [] []
  without : {n : ℕ} {references : List Reference} {edits : List Data} → AreFirstEdits asked new n references edits → AreFirstEdits asked new (suc n) references edits
  within : {n : ℕ} {before own references : List Reference} {first edits : List Data} {one : Data} → AreFirstEdits asked new n before first → ¬ (own ≡ []) → All (λ r. r.source ≡ n) own → IsDocumentEdit asked new n own one
      → references ≡ before ++ own → edits ≡ first ++ one ∷ [] → AreFirstEdits asked new (suc n) references edits

-- the edits of all sources
pub record AreEdits (asked : Subject) (new : List ℕ) (references : List Reference) (value : Data) : Type 0 where
  pub documents : List Data
  pub first : AreFirstEdits asked new (length asked.held) references documents
  pub whole : value ≡ workspace_edit_data documents

-- the set that a request is about, and the rename of the name at a place of source number n
pub record IsRenameOf (asked : Subject) (n : ℕ) (place : Place) (new : List ℕ) (set : CheckedSet) (r : Rename) : Type 0 where
  pub held : set.held.now ≡ asked.held
  pub checked : set.checked.now ≡ asked.checked
  pub source : r.source ≡ n
  pub at : place_of r ≡ in_bytes place
  pub name : r.name.now ≡ new

-- what a rename of the name at a place returns
pub record IsRenamed (asked : Subject) (n : ℕ) (place : Place) (new : List ℕ) (result : Renamed) : Type 0 where
  pub set : CheckedSet
  pub rename : Rename
  pub of : IsRenameOf asked n place new set rename
  pub is : IsRenameResult set rename result

-- the edits of a rename that the checker accepted, or null if the position is in no text that can be read
pub data IsRenameValue (asked : Subject) (n : ℕ) (new : List ℕ) (p : Position) (value : Data) : Type 0 where
  accepted : {place : Place} {set : CheckedSet} {r : Rename} {references : List Reference} → IsPlaceIn asked n p place → IsRenameOf asked n place new set r → IsRename set r references → AreEdits asked new references value → IsRenameValue asked n new p value
  nowhere : HasNoPlace asked n p → value ≡ null → IsRenameValue asked n new p value

-- the rename of the name at the position is refused for this reason
pub record IsRefusedAt (asked : Subject) (n : ℕ) (new : List ℕ) (p : Position) (refusal : RenameRefusal) : Type 0 where
  pub place : Place
  pub set : CheckedSet
  pub rename : Rename
  pub at : IsPlaceIn asked n p place
  pub of : IsRenameOf asked n place new set rename
  pub is : IsRefused set rename refusal

-- a request has no result: the server failed, or a rename is refused for a reason that is so
abbrev pub IsFaultBy : (RenameRefusal → Type 0) → RequestFault → Type 0
IsFaultBy P Server = ⊤
IsFaultBy P (Refused refusal) = P refusal

-- what is said of a refusal. It says no more than the refusal
abbrev pub sentence_of : RenameRefusal → List ℕ
sentence_of NotWhole = codes "hmc hasn't checked every module as it is now"
sentence_of NoName = codes "no name is at this position"
sentence_of NotBound = codes "this name isn't bound in these sources"
sentence_of NotAName = codes "the new name isn't a name without a qualifier"
sentence_of NotRead = codes "with the new name, a source can't be read"
sentence_of NotSame = codes "hmc doesn't accept these sources with the new name"
