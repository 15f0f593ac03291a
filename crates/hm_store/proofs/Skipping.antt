-- What a skip does to each status.
use Rattle.std.proofs.Common.{◌≡◌, ◌≢◌, ℕ, ◌<◌, ◌≤◌, ◌⊎◌, inl, inr, ⊎_elim, Bool, true, false, cond, List, [], ◌∷◌, length, set, Contains, refl, sym, ap, ◌∙◌, arith}
use Rattle.std.proofs.lemmas.List.{length-set, get_or-set_same, get_or-set_other, get_or_past}
use Rattle.std.proofs.lemmas.List.Elements.{Contains-append_right, Contains-append_cases}
use Rattle.std.proofs.lemmas.Bool.{cases_eq, cases_lt}
use Rattle.hm_graph_components.proofs.Members.{Contains-nil, Contains-one}
use Rattle.hm_store.specs.Objects.{status_at, is_waiting, skip, skip_all}
use Rattle.hm_store.specs.declared.object.Status.{Status}
use Rattle.hm_store.specs.declared.object.Status.TheVariants.{Waiting, Claimed, Published, Failed, Skipped}

pub waits : (s : Status) → is_waiting s ≡ true → s ≡ Waiting
waits Waiting h = refl
waits (Claimed w) h = absurd (cc)
waits Published h = absurd (cc)
waits Failed h = absurd (cc)
waits Skipped h = absurd (cc)

pub waits_not : (s : Status) → is_waiting s ≡ false → s ≢ Waiting
waits_not s h e = let w : true ≡ is_waiting s = ap is_waiting (sym e) in absurd (cc)

-- a module with a status other than that of one past the last
pub within : (ss : List Status) (m : ℕ) → status_at ss m ≢ Skipped → m < length ss
within ss m here = ⊎_elim (λ (lt : m < length ss). lt) (λ (le : length ss ≤ m). absurd (here (get_or_past ss m Skipped le))) (cases_lt m (length ss))

waiting_not_skipped : (s : Status) → s ≡ Waiting → s ≢ Skipped
waiting_not_skipped s w e = let h : is_waiting Waiting ≡ is_waiting Skipped = ap is_waiting (sym w ∙ e) in absurd (cc)

-- the status of module x before and after a skip of these modules: it waited and is one of them, or nothing changed
abbrev pub IsSkipOf : List ℕ → ℕ → Status → Status → Type 0
IsSkipOf ks x old new = (Contains ks x × ((old ≡ Waiting) × (new ≡ Skipped))) ⊎ ((new ≡ old) × (old ≡ Waiting → ¬ Contains ks x))

-- the same of one module
IsSkipOfOne : ℕ → ℕ → Status → Status → Type 0
IsSkipOfOne k x old new = ((x ≡ k) × ((old ≡ Waiting) × (new ≡ Skipped))) ⊎ ((new ≡ old) × (old ≡ Waiting → x ≢ k))

skip_one : (ss : List Status) (k x : ℕ) → IsSkipOfOne k x (status_at ss x) (status_at (skip ss k) x)
unfolding IsSkipOfOne
skip_one ss k x = at (is_waiting (status_at ss k)) refl (cases_eq x k)
  where
    at : (v : Bool) → is_waiting (status_at ss k) ≡ v → (x ≡ k) ⊎ (x ≢ k) → IsSkipOfOne k x (status_at ss x) (status_at (cond v (set ss k Skipped) ss) x)
    at true h (inl e) = let w = waits (status_at ss k) h in
        inl (e, (rw e w, rw e (get_or-set_same ss k Skipped Skipped (within ss k (waiting_not_skipped (status_at ss k) w)))))
    at true h (inr n) = inr (get_or-set_other ss k x Skipped Skipped n, λ w. n)
    at false h (inl e) = inr (refl, λ w f. waits_not (status_at ss k) h (rw e at w))
    at false h (inr n) = inr (refl, λ w. n)

Contains-first : (k : ℕ) (ks : List ℕ) (x : ℕ) → x ≡ k → Contains (k ∷ ks) x
Contains-first k ks x e = (0, omega arith, sym e)

Contains-later : (k : ℕ) (ks : List ℕ) (x : ℕ) → Contains ks x → Contains (k ∷ ks) x
Contains-later k ks x c = Contains-append_right (k ∷ []) ks x c

Contains-cases : (k : ℕ) (ks : List ℕ) (x : ℕ) → Contains (k ∷ ks) x → (x ≡ k) ⊎ Contains ks x
Contains-cases k ks x c = ⊎_elim (λ h. inl (Contains-one x k h)) (λ h. inr h) (Contains-append_cases (k ∷ []) ks x c)

joined : (k : ℕ) (ks : List ℕ) (x : ℕ) (old mid new : Status) → IsSkipOfOne k x old mid → IsSkipOf ks x mid new → IsSkipOf (k ∷ ks) x old new
unfolding IsSkipOfOne
joined k ks x old mid new (inl a) (inl b) = absurd (waiting_not_skipped mid b.1.0 a.1.1)
joined k ks x old mid new (inl a) (inr b) = inl (Contains-first k ks x a.0, (a.1.0, b.0 ∙ a.1.1))
joined k ks x old mid new (inr a) (inl b) = inl (Contains-later k ks x b.0, (sym a.0 ∙ b.1.0, b.1.1))
joined k ks x old mid new (inr a) (inr b) = inr (b.0 ∙ a.0, λ w c. ⊎_elim (λ e. a.1 w e) (λ d. b.1 (a.0 ∙ w) d) (Contains-cases k ks x c))

pub skipped : (ks : List ℕ) (ss : List Status) (x : ℕ) → IsSkipOf ks x (status_at ss x) (status_at (skip_all ss ks) x)
skipped [] ss x = inr (refl, λ w c. Contains-nil x c)
skipped (k ∷ ks) ss x = joined k ks x (status_at ss x) (status_at (skip ss k) x) (status_at (skip_all (skip ss k) ks) x) (skip_one ss k x) (skipped ks (skip ss k) x)

length-skip : (ss : List Status) (k : ℕ) → length (skip ss k) ≡ length ss
length-skip ss k = elim (is_waiting (status_at ss k)) as (λ v. length (cond v (set ss k Skipped) ss) ≡ length ss) [ true ↦ length-set ss k Skipped | false ↦ refl ]

pub length-skips : (ks : List ℕ) (ss : List Status) → length (skip_all ss ks) ≡ length ss
length-skips [] ss = refl
length-skips (k ∷ ks) ss = length-skips ks (skip ss k) ∙ length-skip ss k
