-- The actions for fixes.
use Rattle.std.proofs.Common.{◌≡◌, ◌∙◌, ap, List, map, Some, subst, sym, ℕ}
use Rattle.serde_json.specs.Data.{Data, array}
use Rattle.serde_json.specs.View.{items_of, view}
use Rattle.serde_json.specs.declared.value.Value.{Value}
use Rattle.hm_lsp_positions.specs.declared.changes.Range.{Range}
use Rattle.hm_lsp_positions.specs.declared.units.Encoding.{Encoding}
use Rattle.hm_lsp_session.specs.declared.stages.Question.{Question}
use Rattle.hm_lsp_session.specs.declared.stages.Question.TheVariants.{CodeAction}
use Rattle.hm_lsp_values.specs.Diagnostics.{action_data}
use Rattle.hm_lsp_results.specs.Actions.{IsActionsResult, actions_data}
use Rattle.hm_lsp_results.specs.Asked.{Subject}
use Rattle.hm_lsp_results.specs.Results.{HasRange, IsResultOf}
use Rattle.hm_service_candidates.specs.Ranges.{Tried, tried_of}
use Rattle.hm_service_candidates.specs.declared.ranges.Candidate.{Candidate}
use Rattle.hm_lsp_results.proofs.Listed.{map_twice}

pub are_actions : (encoding : Encoding) (uri : List ℕ) (ts : List Candidate) (values : List Value) → map view values ≡ map (λ t. action_data encoding uri t.fault.now t.change.now) ts → array (items_of (map view values)) ≡ actions_data encoding uri (map tried_of ts)
are_actions encoding uri ts values same = ap (λ l. array (items_of l)) (same ∙ sym (map_twice (λ (t : Tried). action_data encoding uri t.fault t.change) tried_of ts))

pub actions_result : (asked : Subject) (question : Question) (n : ℕ) (request value : Data) (range : Range) → question ≡ CodeAction → HasRange request (Some range) → IsActionsResult asked n range value → IsResultOf asked question n request (Some value)
actions_result asked question n request value range is has result = subst (λ (q : Question). IsResultOf asked q n request (Some value)) (sym is) (Some range, (has, result))
