-- Two lists that two functions make alike.
use Rattle.std.proofs.Common.{◌≡◌, ℕ, zero, suc, ◌+◌, ◌<◌, List, [], ◌∷◌, length, map, take, get_or, refl, ap, arith, add-one, Some}
use Rattle.std.specs.Arc.{arc_value}
use Rattle.std.specs.declared.sync.Arc.{Arc}
use Rattle.std.specs.declared.alloc.Global.{Global}
use Rattle.hm_types.specs.Interfaces.{Exports as Interface}

module _ {X Y Z : Type 0} (f : X → Z) (g : Y → Z) where
  suc_maps : (xs : List X) (ys : List Y) (k : ℕ) (d : X) (e : Y) → k < length xs → k < length ys → map f (take k xs) ≡ map g (take k ys) → f (get_or xs k d) ≡ g (get_or ys k e)
      → map f (take (suc k) xs) ≡ map g (take (suc k) ys)
  suc_maps [] ys k d e l m h at = absurd (omega arith)
  suc_maps (x ∷ xs) [] k d e l m h at = absurd (omega arith)
  suc_maps (x ∷ xs) (y ∷ ys) zero d e l m h at = rw at refl
  suc_maps (x ∷ xs) (y ∷ ys) (suc k) d e l m h at = let a : f x ≡ g y = cc in
      let b : map f (take k xs) ≡ map g (take k ys) = cc in
      let c = suc_maps xs ys k d e (omega arith) (omega arith) b at in
      rw a (ap (λ zs. g y ∷ zs) c)

  pub maps_more : (xs : List X) (ys : List Y) (k : ℕ) (d : X) (e : Y) → k < length xs → k < length ys → map f (take k xs) ≡ map g (take k ys) → f (get_or xs k d) ≡ g (get_or ys k e)
      → map f (take (k + 1) xs) ≡ map g (take (k + 1) ys)
  maps_more xs ys k d e l m h at = rw add-one (suc_maps xs ys k d e l m h at)

  pub maps_at : (xs : List X) (ys : List Y) (k : ℕ) (d : X) (e : Y) → k < length xs → map f xs ≡ map g ys → f (get_or xs k d) ≡ g (get_or ys k e)
  maps_at [] ys k d e l h = absurd (omega arith)
  maps_at (x ∷ xs) [] k d e l h = absurd (cc)
  maps_at (x ∷ xs) (y ∷ ys) zero d e l h = cc
  maps_at (x ∷ xs) (y ∷ ys) (suc k) d e l h = let b : map f xs ≡ map g ys = cc in maps_at xs ys k d e (omega arith) b

  pub maps_length : (xs : List X) (ys : List Y) → map f xs ≡ map g ys → length xs ≡ length ys
  maps_length [] [] h = refl
  maps_length [] (y ∷ ys) h = absurd (cc)
  maps_length (x ∷ xs) [] h = absurd (cc)
  maps_length (x ∷ xs) (y ∷ ys) h = let b : map f xs ≡ map g ys = cc in ap suc (maps_length xs ys b)

pub held_values : (xs : List (Arc Interface Global)) → map (λ f. Some (arc_value f)) xs ≡ map (λ f. Some f) (map arc_value xs)
held_values [] = refl
held_values (x ∷ xs) = ap (λ zs. Some (arc_value x) ∷ zs) (held_values xs)
