-- The edits of sources, one source after another, and the results of renames.
use Rattle.std.proofs.Common.{◌≡◌, ◌∙◌, ◌+◌, ◌-◌, ◌<◌, ◌≤◌, ℕ, suc, All, Global, List, [], ◌∷◌, ◌++◌, Option, Some, Result, Ok, Err, IfOk, Vec, append_assoc, arith, ap, drop, get_or, length, length-append, map, slice_range, string_bytes, subst, sym, take}
use Rattle.std.proofs.lemmas.List.{length-take-le, map-append, take_at}
use Rattle.std.proofs.lemmas.List.Edits.{length-between, split_between}
use Rattle.std.specs.List.{AllZip}
use Rattle.serde_json.specs.Data.{Data}
use Rattle.serde_json.specs.View.{view}
use Rattle.serde_json.specs.declared.value.Value.{Value}
use Rattle.hm_lsp_values.specs.Renames.{IsReplacement, document_edit_data}
use Rattle.hm_lsp_positions.specs.declared.positions.Position.{Position}
use Rattle.hm_messages_json.specs.declared.message.Position.{Position as Place}
use Rattle.hm_service_rename.specs.declared.results.RenameRefusal.{RenameRefusal}
use Rattle.hm_service_rename.specs.declared.results.Renamed.{Renamed}
use Rattle.hm_service_rename.specs.declared.results.Renamed.TheVariants.{Edits, Refused}
use Rattle.hm_service_sources.specs.declared.held.HeldSource.{HeldSource}
use Rattle.hm_uses_references.specs.declared.finding.Reference.{Reference}
use Rattle.hm_lsp_results.proofs.Found.{at_get}
use Rattle.hm_lsp_results.proofs.Listed.{has_uri}
use Rattle.hm_lsp_results.specs.Asked.{Subject}
use Rattle.hm_lsp_results.specs.Renames.{AreEdits, AreFirstEdits, IsDocumentEdit, IsRefusedAt, IsRenameValue, IsRenamed, accepted, none, within, without}
use Rattle.hm_lsp_results.specs.References.{IsPlaceIn}
use Rattle.hm_lsp_results.specs.Results.{IsResultNamed}
use Rattle.hm_lsp_sources.specs.declared.source.Source.{Source}

pub edits_none : (asked : Subject) (new : List ℕ) (edits : List Value) → edits ≡ [] → AreFirstEdits asked new 0 [] (map view edits)
edits_none asked new edits is = subst (λ (l : List Value). AreFirstEdits asked new 0 [] (map view l)) (sym is) none

-- a source without references
pub edits_without : (asked : Subject) (new : List ℕ) (n i j : ℕ) (references : List Reference) (edits next : List Value) → i ≤ j → j ≤ i → AreFirstEdits asked new n (take i references) (map view edits) → next ≡ edits
    → AreFirstEdits asked new (n + 1) (take j references) (map view next)
edits_without asked new n i j references edits next up down first is =
    let step : suc n ≡ n + 1 = omega arith in
    let same : i ≡ j = omega (arith, up, down) in
    subst (λ (l : List Value). AreFirstEdits asked new (n + 1) (take j references) (map view l)) (sym is)
    (subst (λ (k : ℕ). AreFirstEdits asked new (n + 1) (take k references) (map view edits)) same (subst (λ (m : ℕ). AreFirstEdits asked new m (take i references) (map view edits)) step (without first)))

pub edits_within : (asked : Subject) (new : List ℕ) (n : ℕ) (before own references : List Reference) (first edits : List Value) (one : Value) → AreFirstEdits asked new n before (map view first) → ¬ (own ≡ []) → All (λ r. r.source ≡ n) own
    → IsDocumentEdit asked new n own (view one) → references ≡ before ++ own → edits ≡ first ++ one ∷ [] → AreFirstEdits asked new (n + 1) references (map view edits)
edits_within asked new n before own references first edits one are some own_source is parts pushed =
    let step : suc n ≡ n + 1 = omega arith in
    subst (λ (m : ℕ). AreFirstEdits asked new m references (map view edits)) step (within are some own_source is parts (ap (map view) pushed ∙ map-append view first (one ∷ [])))

-- the first elements are some of them and the part after these
pub first_parts : (xs : List Reference) (i j : ℕ) → i ≤ j → j ≤ length xs → take j xs ≡ take i xs ++ slice_range xs i j
first_parts xs i j ordered inside =
    let front = take i xs in
    let middle = slice_range xs i j in
    let below : i ≤ length xs = omega (arith, ordered, inside) in
    let whole : xs ≡ (front ++ middle) ++ drop j xs = split_between xs i j ordered ∙ sym (append_assoc front middle (drop j xs)) in
    let one : length front ≡ i = length-take-le i xs below in
    let other : length middle ≡ j - i = length-between xs i j inside in
    let both : length (front ++ middle) ≡ length front + length middle = length-append front middle in
    let long : length (front ++ middle) ≡ j = omega (arith, one, other, both, ordered) in
    ap (take j) whole ∙ take_at (front ++ middle) (drop j xs) j long

-- a part that begins before it ends has a member
pub some_part : (xs : List Reference) (i j : ℕ) → i < j → j ≤ length xs → slice_range xs i j ≡ [] → ⊥
some_part xs i j ordered inside empty =
    let long : length (slice_range xs i j) ≡ j - i = length-between xs i j inside in
    let zero_long : length (slice_range xs i j) ≡ 0 = ap (λ (l : List Reference). length l) empty in
    omega (arith, long, zero_long, ordered)

pub document_one : {E : Type 0} (asked : Subject) (new : List ℕ) (n : ℕ) (references : List Reference) (s : Source) (h : HeldSource) (uri text : List ℕ) (edits : List Data) (made : Result Value E) → n < length asked.sources → n < length asked.held
    → s ≡ get_or asked.sources n s → h ≡ get_or asked.held n h → uri ≡ string_bytes s.uri → text ≡ h.text.items → AllZip (IsReplacement asked.encoding text new) references edits
    → IfOk made (λ v. view v ≡ document_edit_data uri edits) → IfOk made (λ v. IsDocumentEdit asked new n references (view v))
document_one asked new n references s h uri text edits (Err e) low below at_s at_h named is each made = tt
document_one asked new n references s h uri text edits (Ok v) low below at_s at_h named is each made = record {
  uri = uri;
  source = h;
  edits = edits;
  named = has_uri asked.sources n s uri low at_s named;
  held = at_get asked.held n h below at_h;
  each = subst (λ (t : List ℕ). AllZip (IsReplacement asked.encoding t new) references edits) is each;
  whole = made;
}

pub refusal_at : (asked : Subject) (n : ℕ) (new : List ℕ) (p : Position) (place : Place) (refusal : RenameRefusal) (result : Renamed) → IsPlaceIn asked n p place → IsRenamed asked n place new result → result ≡ Refused refusal
    → IsRefusedAt asked n new p refusal
refusal_at asked n new p place refusal result at is same =
    let h : IsRenamed asked n place new (Refused refusal) = subst (λ (x : Renamed). IsRenamed asked n place new x) same is in
    record { place = place; set = h.set; rename = h.rename; at = at; of = h.of; is = h.is }

pub value_of_edits : (asked : Subject) (n : ℕ) (new : List ℕ) (p : Position) (place : Place) (references : Vec Reference Global) (result : Renamed) (value : Data) → IsPlaceIn asked n p place → IsRenamed asked n place new result → result ≡ Edits references
    → AreEdits asked new references.items value → IsRenameValue asked n new p value
value_of_edits asked n new p place references result value at is same edits =
    let h : IsRenamed asked n place new (Edits references) = subst (λ (x : Renamed). IsRenamed asked n place new x) same is in
    accepted at h.of h.is edits

pub named_as : (P : List ℕ → Option Data → Type 0) (found : Option (List ℕ)) (new : List ℕ) (result : Option Data) → found ≡ Some new → P new result → IsResultNamed P found result
named_as P found new result is h = subst (λ (x : Option (List ℕ)). IsResultNamed P x result) (sym is) h
