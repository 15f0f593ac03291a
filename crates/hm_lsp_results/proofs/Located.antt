-- Results that stand in a text.
use Rattle.std.proofs.Common.{◌≡◌, ℕ, ◌<◌, List, Result, Ok, Err, IfOk, length, get_or, subst, string_bytes}
use Rattle.serde_json.specs.View.{view}
use Rattle.serde_json.specs.declared.value.Value.{Value}
use Rattle.hm_lsp_positions.specs.declared.units.Encoding.{Encoding}
use Rattle.hm_lsp_values.specs.Names.{IsLocation}
use Rattle.hm_service_messages.specs.declared.spots.Bound.{Bound}
use Rattle.hm_service_sources.specs.declared.held.HeldSource.{HeldSource}
use Rattle.hm_lsp_results.specs.Results.{IsBoundResult, located}
use Rattle.hm_lsp_sources.specs.declared.source.Source.{Source}
use Rattle.hm_lsp_results.proofs.Found.{at_get}
use Rattle.hm_lsp_results.proofs.Listed.{has_uri}

pub located_at : {E : Type 0} (encoding : Encoding) (sources : List Source) (held : List HeldSource) (b : Bound) (s : Source) (h : HeldSource) (uri text : List ℕ) (made : Result Value E)
    → b.source < length held → h ≡ get_or held b.source h → b.source < length sources → s ≡ get_or sources b.source s → uri ≡ string_bytes s.uri → text ≡ h.standing.items
    → IfOk made (λ value. IsLocation encoding uri text b (view value)) → IfOk made (λ value. IsBoundResult encoding sources held b (view value))
located_at encoding sources held b s h uri text (Err e) low at low_source at_source named is here = tt
located_at encoding sources held b s h uri text (Ok value) low at low_source at_source named is here =
    located (has_uri sources b.source s uri low_source at_source named) (at_get held b.source h low at) (subst (λ t. IsLocation encoding uri t b (view value)) is here)
