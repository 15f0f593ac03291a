-- What readers tell, one reader after the other, and how far they are read.
use Rattle.std.proofs.Common.{◌≡◌, ℕ, ◌+◌, ◌<◌, ◌≤◌, List, [], ◌∷◌, ◌++◌, Option, Some, IfSome, length, take, map, get_or, refl, sym, ap, subst, ◌∙◌, arith, inl, inr, rules}
use Rattle.std.proofs.lemmas.List.{places, take_more, take_more_set, map-append, get_or-set_other, get_or-set_same, length-set}
use Rattle.std.proofs.lemmas.Bool.{cases_order}
use Rattle.std.proofs.Math.ListN.{set}
use Rattle.std.proofs.lemmas.List.Elements.{All-append, All-cons, All-nil, All-set}
use Rattle.std.specs.Prelude.{All, Any, Result, Ok, Err, OnErr}
use Rattle.hm_run_io.specs.Sources.{IsReadUp, Stops, StopsAt, Tell, held_of}

-- what the last of some readers tells stands last
pub tell_last : {R : Type 0} (f : R → Option (List ℕ)) (xs : List R) (x : R) (told : List (List ℕ)) → Tell f (xs ++ x ∷ []) told
    → (before : List (List ℕ)) × (t : List ℕ) × (told ≡ before ++ t ∷ []) × Tell f xs before × (f x ≡ Some t)
tell_last f [] x [] h = absurd h
tell_last f [] x (t ∷ []) h = ([], t, refl, tt, h.0)
tell_last f [] x (t ∷ (u ∷ us)) h = absurd h.1
tell_last f (y ∷ ys) x [] h = absurd h
tell_last f (y ∷ ys) x (t ∷ ts) h =
    let r = tell_last f ys x ts h.1 in
    (t ∷ r.0, r.1, ap (λ l. t ∷ l) r.2, (h.0, r.3), r.4)

-- one more source is held
pub told_more : {R : Type 0} (f : R → Option (List ℕ)) (xs : List R) (i : ℕ) (d : R) → i < length xs → (held : List (List ℕ)) (new : List ℕ)
    → ((told : List (List ℕ)) → Tell f (take i xs) told → held ≡ map held_of told) → IfSome (f (get_or xs i d)) (λ all. new ≡ held_of all)
    → (told : List (List ℕ)) → Tell f (take (i + 1) xs) told → held ++ new ∷ [] ≡ map held_of told
told_more f xs i d within held new before last told h =
    let r = tell_last f (take i xs) (get_or xs i d) told (subst (λ l. Tell f l told) (take_more xs i d within) h) in
    let front : held ≡ map held_of r.0 = before r.0 r.3 in
    let back : new ≡ held_of r.1 = subst (λ o. IfSome o (λ all. new ≡ held_of all)) r.4 last in
    ap (λ l. l ++ new ∷ []) front ∙ ap (λ b. map held_of r.0 ++ b ∷ []) back ∙ sym (map-append held_of r.0 (r.1 ∷ [])) ∙ sym (ap (map held_of) r.2)

-- a write at i keeps what stands past it
pub set_past : {X : Type 0} (xs ys : List X) (i : ℕ) (y : X) → ((k : ℕ) (d : X) → i ≤ k → k < length xs → get_or xs k d ≡ get_or ys k d)
    → (k : ℕ) (d : X) → i + 1 ≤ k → k < length (set xs i y) → get_or (set xs i y) k d ≡ get_or ys k d
set_past xs ys i y h k d low high = get_or-set_other xs i k y d (λ e. omega arith) ∙ h k d (omega arith) (omega (arith, length-set xs i y))

-- a write of what holds keeps what holds of each
pub all_set : {X : Type 0} (P : X → Type 0) (xs : List X) (i : ℕ) (y : X) → All P xs → P y → All P (set xs i y)
all_set P xs i y h p = All-set P xs i y p h

-- one more reader was read up
pub read_up_more : {R : Type 0} (f : R → Option (List ℕ)) (olds news : List R) (i : ℕ) (y : R) → i < length news
    → ((k : ℕ) (d : R) → k < i → IsReadUp (f (get_or olds k d)) (f (get_or news k d)))
    → ((d : R) → IsReadUp (f (get_or olds i d)) (f y))
    → (k : ℕ) (d : R) → k < i + 1 → IsReadUp (f (get_or olds k d)) (f (get_or (set news i y) k d))
read_up_more f olds news i y within before last k d less = elim (cases_order k i) [
  | inl same ↦ rw same (subst (λ z. IsReadUp (f (get_or olds i d)) (f z)) (sym (get_or-set_same news i y d within)) (last d))
  | inr (inl below) ↦ subst (λ z. IsReadUp (f (get_or olds k d)) (f z)) (sym (get_or-set_other news i k y d (λ e. omega arith))) (before k d below)
  | inr (inr above) ↦ absurd (omega arith)
]

-- reading stops at a reader
pub stops_at : {R : Type 0} (f : R → Option (List ℕ)) (olds news : List R) (i : ℕ) (y : R) → length news ≡ length olds → i < length olds
    → ((k : ℕ) (d : R) → k < i → IsReadUp (f (get_or olds k d)) (f (get_or news k d)))
    → ((k : ℕ) (d : R) → i ≤ k → k < length news → get_or news k d ≡ get_or olds k d)
    → StopsAt f olds (set news i y) i
stops_at f olds news i y long within before past = record {
  as_many = length-set news i y ∙ long;
  inside = within;
  before = λ k d less. subst (λ z. IsReadUp (f (get_or olds k d)) (f z)) (sym (get_or-set_other news i k y d (λ e. omega arith))) (before k d less);
  behind = λ k d more inside. get_or-set_other news i k y d (λ e. omega arith) ∙ past k d (omega arith) (omega (arith, long, inside));
}

-- so it stops at some reader
pub stops : {R : Type 0} (f : R → Option (List ℕ)) (olds news : List R) (i : ℕ) (y : R) → length news ≡ length olds → i < length olds
    → ((k : ℕ) (d : R) → k < i → IsReadUp (f (get_or olds k d)) (f (get_or news k d)))
    → ((k : ℕ) (d : R) → i ≤ k → k < length news → get_or news k d ≡ get_or olds k d)
    → Stops f olds (set news i y)
stops f olds news i y long within before past = record { place = i; stops = stops_at f olds news i y long within before past }

-- what was written at a place is found there
pub found_set : {X : Type 0} (P : X → Type 0) (olds news : List X) (i : ℕ) (y : X) → length news ≡ length olds → i < length olds → P y → (d : X) → P (get_or (set news i y) i d)
found_set P olds news i y long within h d = subst P (sym (get_or-set_same news i y d (omega (arith, long, within)))) h

-- so P holds of some element
pub some_set : {X : Type 0} (P : X → Type 0) (news : List X) (i : ℕ) (y : X) → i < length news → P y → Any P (set news i y)
some_set P news i y within h = (i, y, search (rules, places), search (rules, places), h)

-- one more element of which P holds
pub all_more : {X : Type 0} (P : X → Type 0) (old new : List X) (y : X) → new ≡ old ++ y ∷ [] → All P old → P y → All P new
all_more P old new y e h p = subst (All P) (sym e) (All-append P old (y ∷ []) h (All-cons P y [] p (All-nil P)))

-- what holds anyhow holds after an error
pub answered : {T E P : Type 0} (r : Result T E) → P → OnErr r P
answered (Ok x) p = tt
answered (Err e) p = p

-- one more source is what its reader gave
pub given_more : {X R : Type 0} (f : X → List ℕ) (g : R → List ℕ) (xs ys : List X) (x : X) (rs : List R) (i : ℕ) (r : R) → i < length rs → ys ≡ xs ++ x ∷ []
    → map f xs ≡ map g (take i rs) → f x ≡ g r → map f ys ≡ map g (take (i + 1) (set rs i r))
given_more f g xs ys x rs i r within pushed before last =
    ap (map f) pushed ∙ map-append f xs (x ∷ []) ∙ ap (λ l. l ++ f x ∷ []) before ∙ ap (λ b. map g (take i rs) ++ b ∷ []) last
    ∙ sym (map-append g (take i rs) (r ∷ [])) ∙ sym (ap (map g) (take_more_set rs i r within))

-- one more reader of which P holds
pub all_taken : {R : Type 0} (P : R → Type 0) (rs : List R) (i : ℕ) (r : R) → i < length rs → All P (take i rs) → P r → All P (take (i + 1) (set rs i r))
all_taken P rs i r within before last = all_more P (take i rs) (take (i + 1) (set rs i r)) r (take_more_set rs i r within) before last
