-- The results of requests for fixes (Language Server Protocol 3.17, "Code Action Request").
use Rattle.std.specs.Prelude.{◌≡◌, ◌≤◌, ◌⊎◌, ℕ, List, Some, length, map, slice_get}
use Rattle.serde_json.specs.Data.{Data, array, no_items}
use Rattle.serde_json.specs.View.{items_of}
use Rattle.hm_lsp_positions.specs.declared.changes.Range.{Range}
use Rattle.hm_lsp_positions.specs.declared.units.Encoding.{Encoding}
use Rattle.hm_lsp_values.specs.Diagnostics.{action_data}
use Rattle.hm_lsp_values.specs.Places.{IsPlaceAt}
use Rattle.hm_service_candidates.specs.Ranges.{Tried}
use Rattle.hm_service_candidates.specs.declared.ranges.SourceRange.{SourceRange}
use Rattle.hm_service_offers.specs.Offers.{AreFixesAt}
use Rattle.hm_service_places.specs.declared.checked.CheckedSet.{CheckedSet}
use Rattle.hm_service_sources.specs.declared.held.HeldSource.{HeldSource}
use Rattle.hm_lsp_results.specs.Asked.{HasUri, Subject}

abbrev pub actions_data : Encoding → List ℕ → List Tried → Data
actions_data encoding uri ts = array (items_of (map (λ t. action_data encoding uri t.fault t.change) ts))

-- the fixes for the range of source number n that has this text
pub record AreOffered (asked : Subject) (n : ℕ) (text : List ℕ) (range : Range) (found : List Tried) : Type 0 where
  pub set : CheckedSet
  pub held : set.held.now ≡ asked.held
  pub checked : set.checked.now ≡ asked.checked
  pub places : SourceRange
  pub source : places.source ≡ n
  pub starts : IsPlaceAt asked.encoding text range.start places.start
  pub ends : IsPlaceAt asked.encoding text range.end places.end
  pub are : AreFixesAt (slice_get asked.held n) set places found

-- an action for each fix, in order. There are none for a source that isn't there
pub data IsActionsResult (asked : Subject) (n : ℕ) (range : Range) (value : Data) : Type 0 where
  offered : {uri : List ℕ} {source : HeldSource} {found : List Tried} → HasUri asked.sources n uri → slice_get asked.held n ≡ Some source → AreOffered asked n source.text.items range found → value ≡ actions_data asked.encoding uri found
      → IsActionsResult asked n range value
  nowhere : (length asked.sources ≤ n) ⊎ (length asked.held ≤ n) → value ≡ array no_items → IsActionsResult asked n range value
