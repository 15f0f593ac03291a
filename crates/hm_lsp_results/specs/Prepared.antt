-- The name that a rename is of (Language Server Protocol 3.17, "Prepare Rename Request").
use Rattle.std.specs.Prelude.{◌≡◌, ℕ, List, string_bytes}
use Rattle.serde_json.specs.Data.{Data, null}
use Rattle.hm_lsp_positions.specs.declared.positions.Position.{Position}
use Rattle.hm_lsp_values.specs.Renames.{IsTargetValue}
use Rattle.hm_messages_json.specs.declared.message.Position.{Position as Place}
use Rattle.hm_service_rename.specs.Prepared.{IsNotRenamable, IsPrepared, place_in}
use Rattle.hm_service_places.specs.declared.checked.CheckedSet.{CheckedSet}
use Rattle.hm_service_rename.specs.declared.results.Prepared.{Prepared}
use Rattle.hm_service_rename.specs.declared.results.Prepared.TheVariants.{Renamable}
use Rattle.hm_service_rename.specs.declared.results.RenameRefusal.{RenameRefusal}
use Rattle.hm_service_rename.specs.declared.results.SourcePlace.{SourcePlace}
use Rattle.hm_service_rename.specs.declared.results.Target.{Target}
use Rattle.hm_lsp_results.specs.Asked.{IsReadText, Subject}
use Rattle.hm_lsp_results.specs.References.{HasNoPlace, IsPlaceIn, in_bytes}

-- the set that a request is about, and a place of source number n
pub record IsSpotIn (asked : Subject) (n : ℕ) (place : Place) (set : CheckedSet) (spot : SourcePlace) : Type 0 where
  pub held : set.held.now ≡ asked.held
  pub checked : set.checked.now ≡ asked.checked
  pub source : spot.source ≡ n
  pub at : place_in spot ≡ in_bytes place

-- what is found for a rename at a place
pub record IsPreparedIn (asked : Subject) (n : ℕ) (place : Place) (found : Prepared) : Type 0 where
  pub set : CheckedSet
  pub spot : SourcePlace
  pub of : IsSpotIn asked n place set spot
  pub is : IsPrepared set spot found

-- the name at the position, if it can be renamed, or null if the position is in no text that can be read
pub data IsPrepareValue (asked : Subject) (n : ℕ) (p : Position) (value : Data) : Type 0 where
  prepared : {place : Place} {text : List ℕ} {t : Target} → IsPlaceIn asked n p place → IsPreparedIn asked n place (Renamable t) → IsReadText asked.held n text → IsTargetValue asked.encoding text (string_bytes t.name) t.reference value
      → IsPrepareValue asked n p value
  nowhere : HasNoPlace asked n p → value ≡ null → IsPrepareValue asked n p value

-- each rename of the name at the position is refused for this reason
pub record IsNotRenamableAt (asked : Subject) (n : ℕ) (p : Position) (refusal : RenameRefusal) : Type 0 where
  pub place : Place
  pub set : CheckedSet
  pub spot : SourcePlace
  pub at : IsPlaceIn asked n p place
  pub of : IsSpotIn asked n place set spot
  pub is : IsNotRenamable set spot refusal
