-- The module that a place is in, found by its number.
use Rattle.std.proofs.Common.{◌≡◌, ℕ, zero, suc, ◌+◌, ◌<◌, List, [], ◌∷◌, ◌++◌, Some, length, length-append, map, get_or, refl, sym, ap, subst, arith, inl, inr}
use Rattle.hm_lex.specs.Places.{IsBefore}
use Rattle.hm_lex.specs.declared.token.Place.{Place}
use Rattle.hm_messages.specs.ModuleStarts.{IsBeforeFirst, IsModuleAround, IsWithin, MayStart, Start, start_of}
use Rattle.hm_messages.specs.declared.starts.ModuleStart.{ModuleStart}

no_first : (n : ℕ) → n < 0 → ⊥
no_first n h = omega (arith, h)

one_there : (n : ℕ) → 0 < suc n
one_there n = omega arith

next_below : (k n : ℕ) → k < n → suc k < suc n
next_below k n h = omega (arith, h)

below_next : (k n : ℕ) → suc k < suc n → k < n
below_next k n h = omega (arith, h)

isnt_none : (all parts before rest : ℕ) → all ≡ parts → all ≡ 0 → parts ≡ before + suc rest → ⊥
isnt_none all parts before rest same none long = omega (arith, same, none, long)

module _ (place : Place) where
  pub before_first : (items : List ModuleStart) → ((d : ModuleStart) → 0 < length items → IsBefore place (get_or items 0 d).place) → IsBeforeFirst place (map start_of items)
  before_first [] h = tt
  before_first (x ∷ xs) h = h x (one_there (length xs))

  pub within_at : (items : List ModuleStart) (k : ℕ) (x : ModuleStart) → k < length items → x ≡ get_or items k x → ¬ (IsBefore place x.place)
      → ((d : ModuleStart) → suc k < length items → IsBefore place (get_or items (suc k) d).place) → IsWithin (map start_of items) place x.name.now
  within_at [] k x low is begun ends = absurd (no_first k low)
  within_at (y ∷ ys) zero x low is begun ends = record {
    earlier = [];
    here = start_of y;
    later = map start_of ys;
    all = refl;
    named = ap (λ (s : ModuleStart). s.name.now) (sym is);
    begun = subst (λ (s : ModuleStart). ¬ (IsBefore place s.place)) is begun;
    ends = before_first ys (λ d h. ends d (next_below 0 (length ys) h));
  }
  within_at (y ∷ ys) (suc k) x low is begun ends =
      let rest = within_at ys k x (below_next k (length ys) low) is begun (λ d h. ends d (next_below (suc k) (length ys) h)) in
      record {
        earlier = start_of y ∷ rest.earlier;
        here = rest.here;
        later = rest.later;
        all = ap (λ l. start_of y ∷ l) rest.all;
        named = rest.named;
        begun = rest.begun;
        ends = rest.ends;
      }

  pub spelled_within : (source : List ℕ) (starts : List Start) (name : List ℕ) → MayStart source starts → IsWithin starts place name → IsModuleAround source place (Some name)
  spelled_within source starts name (inl none) w =
      let long : length starts ≡ length (w.earlier ++ w.here ∷ w.later) = ap length w.all in
      absurd (isnt_none (length starts) (length (w.earlier ++ w.here ∷ w.later)) (length w.earlier) (length w.later) long (ap length none) (length-append w.earlier (w.here ∷ w.later)))
  spelled_within source starts name (inr are) w = (are.0, are.1, subst (λ l. IsWithin l place name) are.2 w)
