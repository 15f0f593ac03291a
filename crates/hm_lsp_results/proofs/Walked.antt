-- The cursors of the texts that stand for sources.
use Rattle.std.proofs.Common.{◌≡◌, ◌∙◌, ◌<◌, ℕ, zero, suc, List, [], ◌∷◌, Some, ap, arith, get_or, length, map, refl, set}
use Rattle.std.proofs.lemmas.List.{set-get_or}
use Rattle.std.specs.Prelude.{slice_get}
use Rattle.hm_lsp_positions.specs.Cursors.{Walk}
use Rattle.hm_lsp_results.specs.Asked.{Subject}
use Rattle.hm_lsp_results.specs.Walks.{walk_in, walks_of}
use Rattle.hm_service_sources.specs.declared.held.HeldSource.{HeldSource}

-- the cursor with this number is in the text of the source with it
pub record IsWalkIn (asked : Subject) (n : ℕ) (w : Walk) : Type 0 where
  pub source : HeldSource
  pub held : slice_get asked.held n ≡ Some source
  pub walk : w ≡ walk_in asked.encoding source

held_at : (f : HeldSource → Walk) (xs : List HeldSource) (i : ℕ) (d : Walk) → i < length xs → (h : HeldSource) × (slice_get xs i ≡ Some h) × (get_or (map f xs) i d ≡ f h)
held_at f [] i d low = let never : ⊥ = omega (arith, low) in absurd never
held_at f (x ∷ xs) zero d low = (x, refl, refl)
held_at f (x ∷ xs) (suc i) d low = held_at f xs i d (omega (arith, low))

pub walk_at : (asked : Subject) (n : ℕ) (w : Walk) → n < length asked.held → w ≡ get_or (walks_of asked) n w → IsWalkIn asked n w
walk_at asked n w low at = let found = held_at (walk_in asked.encoding) asked.held n w low in record { source = found.0; held = found.1; walk = at ∙ found.2 }

pub set_again : (xs : List Walk) (i : ℕ) (x y : Walk) → x ≡ get_or xs i x → y ≡ x → set xs i y ≡ xs
set_again xs i x y at same = ap (λ (w : Walk). set xs i w) (same ∙ at) ∙ set-get_or xs i x
