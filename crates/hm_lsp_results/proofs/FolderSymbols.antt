-- A symbol of the folder.
use Rattle.std.proofs.Common.{◌≡◌, ℕ, ◌<◌, List, Some, Result, Ok, Err, IfOk, length, get_or, string_bytes, ap, subst, ◌∙◌}
use Rattle.std.specs.Prelude.{slice_get}
use Rattle.serde_json.specs.View.{view}
use Rattle.serde_json.specs.declared.value.Value.{Value}
use Rattle.hm_lsp_positions.specs.Cursors.{Walk}
use Rattle.hm_lsp_results.proofs.Listed.{has_uri}
use Rattle.hm_lsp_results.proofs.Walked.{IsWalkIn}
use Rattle.hm_lsp_results.specs.Asked.{Subject}
use Rattle.hm_lsp_results.specs.Symbols.{IsFound}
use Rattle.hm_lsp_sources.specs.declared.source.Source.{Source}
use Rattle.hm_lsp_values.specs.Symbols.{IsLocatedSymbol}
use Rattle.hm_service_symbols.specs.SetSymbols.{SymbolIn}
use Rattle.hm_uses_symbols.specs.Symbols.{SymbolOf}

pub found_one : {E : Type 0} (asked : Subject) (one : SymbolIn) (n : ℕ) (s : Source) (w : Walk) (uri : List ℕ) (own : SymbolOf) (made : Result Value E) → n ≡ one.source → one.source < length asked.sources → s ≡ get_or asked.sources n s
    → IsWalkIn asked n w → uri ≡ string_bytes s.uri → own ≡ one.symbol → IfOk made (λ v. IsLocatedSymbol w.encoding uri w.text own (view v)) → IfOk made (λ v. IsFound asked one (view v))
found_one asked one n s w uri own (Err e) same low at_s at_w named symbol made = tt
found_one asked one n s w uri own (Ok v) same low at_s at_w named symbol made = record {
  uri = uri;
  source = at_w.source;
  named = has_uri asked.sources one.source s uri low (at_s ∙ ap (λ (k : ℕ). get_or asked.sources k s) same) named;
  held = subst (λ (k : ℕ). slice_get asked.held k ≡ Some at_w.source) same at_w.held;
  is = subst (λ (t : SymbolOf). IsLocatedSymbol asked.encoding uri at_w.source.standing.items t (view v)) symbol (subst (λ (x : Walk). IsLocatedSymbol x.encoding uri x.text own (view v)) at_w.walk made);
}
