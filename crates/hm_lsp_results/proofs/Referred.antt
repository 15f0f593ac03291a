-- Results of requests about where names are written.
use Rattle.std.proofs.Common.{◌≡◌, ℕ, ◌<◌, List, Option, None, Some, Result, Ok, Err, IfNone, IfOk, IfSome, Vec, length, get_or, string_bytes, subst}
use Rattle.std.specs.declared.alloc.Global.{Global}
use Rattle.serde_json.specs.View.{view}
use Rattle.serde_json.specs.declared.value.Value.{Value}
use Rattle.hm_lsp_positions.specs.Cursors.{Walk}
use Rattle.hm_lsp_positions.specs.declared.positions.Position.{Position}
use Rattle.hm_lsp_values.specs.References.{IsReference}
use Rattle.hm_messages_json.specs.declared.message.Position.{Position as Place}
use Rattle.hm_service_references.specs.Names.{HasNoNameAt}
use Rattle.hm_uses_references.specs.declared.finding.Reference.{Reference}
use Rattle.hm_lsp_results.specs.Asked.{Subject}
use Rattle.hm_lsp_results.specs.References.{HasNoReferences, IsLocated, IsPlaceIn, in_bytes, unnamed}
use Rattle.hm_lsp_sources.specs.declared.source.Source.{Source}
use Rattle.hm_lsp_results.proofs.Listed.{has_uri}
use Rattle.hm_lsp_results.proofs.Walked.{IsWalkIn}

pub located_one : {E : Type 0} (asked : Subject) (r : Reference) (s : Source) (w : Walk) (uri : List ℕ) (made : Result Value E) → r.source < length asked.sources → s ≡ get_or asked.sources r.source s → IsWalkIn asked r.source w
    → uri ≡ string_bytes s.uri → IfOk made (λ v. IsReference w.encoding uri w.text r (view v)) → IfOk made (λ v. IsLocated asked r (view v))
located_one asked r s w uri (Err e) low at_s at_w named made = tt
located_one asked r s w uri (Ok v) low at_s at_w named made = record {
  uri = uri;
  source = at_w.source;
  named = has_uri asked.sources r.source s uri low at_s named;
  held = at_w.held;
  is = subst (λ (x : Walk). IsReference x.encoding uri x.text r (view v)) at_w.walk made;
}

pub nothing_found : (asked : Subject) (n : ℕ) (p : Position) (place : Place) (found : Option (Vec Reference Global)) → IsPlaceIn asked n p place → IfNone found (HasNoNameAt asked.checked n (in_bytes place)) → IfNone found (HasNoReferences asked n p)
nothing_found asked n p place None at none = unnamed at none
nothing_found asked n p place (Some references) at none = tt

pub none_in : {X : Type 0} (P : Type 0) (o : Option X) → o ≡ None → IfNone o P → P
none_in P None is h = h
none_in {X} P (Some x) is h = absurd (some_none x is)
  where
    some_none : (x : X) → Some x ≡ None → ⊥
    some_none x e = cc

pub some_in : {X : Type 0} (P : X → Type 0) (o : Option X) (x : X) → o ≡ Some x → IfSome o P → P x
some_in P o x is h = subst (λ k. IfSome k P) is h
