-- The names that may be written at a place.
use Rattle.std.proofs.Common.{◌≡◌, ◌<◌, ◌+◌, ℕ, List, Option, length, get_or, refl, sym, subst}
use Rattle.std.specs.Prelude.{slice_range}
use Rattle.serde_json.specs.Data.{Data}
use Rattle.hm_lsp_positions.specs.Positions.{IsOffsetOf, IsPositionOf}
use Rattle.hm_lsp_positions.specs.declared.positions.Position.{Position}
use Rattle.hm_lsp_results.proofs.Found.{at_get}
use Rattle.hm_lsp_results.specs.Asked.{Subject}
use Rattle.hm_lsp_results.specs.Completions.{AreCompletionsIn, IsCompletionsResult, IsNameStart, held}
use Rattle.hm_lsp_results.specs.Results.{IsResultAtPosition, IsResultOf}
use Rattle.hm_lsp_session.specs.declared.stages.Question.{Question}
use Rattle.hm_lsp_session.specs.declared.stages.Question.TheVariants.{Completion}
use Rattle.hm_lsp_values.specs.Completions.{completions_data}
use Rattle.hm_scope_typed_names.specs.declared.typed.TypedName.{TypedName}
use Rattle.hm_service_completions.specs.Completions.{AreCompletionsOf}
use Rattle.hm_service_sources.specs.declared.held.HeldSource.{HeldSource}

pub completions_held : (asked : Subject) (n : ℕ) (p : Position) (source : HeldSource) (text : List ℕ) (value : Data) → n < length asked.held → source ≡ get_or asked.held n source → text ≡ source.text.items
    → AreCompletionsIn asked n text p value → IsCompletionsResult asked n p value
completions_held asked n p source text value low at is are = held (at_get asked.held n source low at) (subst (λ (t : List ℕ). AreCompletionsIn asked n t p value) is are)

pub completion_of : (asked : Subject) (question : Question) (n : ℕ) (request : Data) (result : Option Data) → question ≡ Completion → IsResultAtPosition (IsCompletionsResult asked n) request result → IsResultOf asked question n request result
completion_of asked question n request result is h = subst (λ (q : Question). IsResultOf asked q n request result) (sym is) h

pub completions_begun : (asked : Subject) (n : ℕ) (text : List ℕ) (p first last : Position) (start offset : ℕ) (names own : List TypedName) (value : Data) → IsOffsetOf asked.encoding text p offset → IsNameStart text offset start
    → IsPositionOf asked.encoding text start first → IsPositionOf asked.encoding text offset last → AreCompletionsOf asked.checked n (last.line + 1) (slice_range text start offset) names → own ≡ names → value ≡ completions_data first last own
    → AreCompletionsIn asked n text p value
completions_begun asked n text p first last start offset names own value at begun starts ends are same whole = record {
  first = first;
  last = last;
  prefix = slice_range text start offset;
  names = names;
  begun = record { start = start; offset = offset; at = at; begun = begun; starts = starts; ends = ends; prefix_is = refl };
  are = are;
  whole = subst (λ (l : List TypedName). value ≡ completions_data first last l) same whole;
}
