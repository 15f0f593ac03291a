-- Sources, their texts and the names in them.
use Rattle.std.proofs.Common.{◌≡◌, ℕ, zero, suc, ◌<◌, ◌≤◌, Bool, false, List, [], ◌∷◌, Option, Some, None, IfNone, IfSome, length, get_or, refl, sym, ap, ◌∙◌, arith}
use Rattle.std.proofs.lemmas.Bool.{false≢true}
use Rattle.std.specs.Prelude.{slice_get}
use Rattle.hm_lsp_positions.specs.declared.positions.Position.{Position}
use Rattle.hm_lsp_positions.specs.declared.units.Encoding.{Encoding}
use Rattle.hm_service_places.specs.Places.{HasNoName, IsNameAt}
use Rattle.hm_service_places.specs.declared.checked.Checked.{Checked}
use Rattle.hm_service_places.specs.declared.places.AtPlace.{AtPlace}
use Rattle.hm_service_sources.specs.declared.held.HeldSource.{HeldSource}
use Rattle.hm_lsp_results.specs.Asked.{IsFoundAt, IsReadText, IsSpotOf, unnamed}

pub got : {X : Type 0} (xs : List X) (n : ℕ) (d : X) → n < length xs → slice_get xs n ≡ Some (get_or xs n d)
got [] n d low = let never : ⊥ = omega (arith, low) in absurd never
got (x ∷ xs) zero d low = refl
got (x ∷ xs) (suc n) d low = got xs n d (omega (arith, low))

pub at_get : {X : Type 0} (xs : List X) (n : ℕ) (x : X) → n < length xs → x ≡ get_or xs n x → slice_get xs n ≡ Some x
at_get xs n x low at = got xs n x low ∙ ap Some (sym at)

past : {X : Type 0} (xs : List X) (n : ℕ) → length xs ≤ n → slice_get xs n ≡ None
past [] n high = refl
past (x ∷ xs) zero high = let never : ⊥ = omega (arith, high) in absurd never
past (x ∷ xs) (suc n) high = past xs n (omega (arith, high))

none_some : {X : Type 0} (x : X) → None ≡ Some x → ⊥
none_some x e = cc

-- there is no such source
pub no_source : (held : List HeldSource) (n : ℕ) (text : List ℕ) → length held ≤ n → IsReadText held n text → ⊥
no_source held n text high h = none_some h.source (sym (past held n high) ∙ h.at)

reads : Option HeldSource → Bool
reads None = false
reads (Some s) = s.is_read

-- the source can't be read
pub no_text : (held : List HeldSource) (n : ℕ) (s : HeldSource) (text : List ℕ) → slice_get held n ≡ Some s → s.is_read ≡ false → IsReadText held n text → ⊥
unfolding reads
no_text held n s text at unread h = false≢true (sym unread ∙ ap reads (sym at ∙ h.at) ∙ h.readable)

pub found_at : (encoding : Encoding) (held : List HeldSource) (c : Checked) (n : ℕ) (p : Position) (text : List ℕ) (line column : ℕ) (found : Option AtPlace) → IsReadText held n text → IsSpotOf encoding text p line column
    → IfSome found (λ a. IsNameAt c n line column a) → IfNone found (HasNoName c n line column) → IsFoundAt encoding held c n p found
found_at encoding held c n p text line column None readable spot some none = unnamed readable spot none
found_at encoding held c n p text line column (Some a) readable spot some none = record { text = text; line = line; column = column; readable = readable; spot = spot; named = some }
