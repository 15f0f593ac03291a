-- The lists that are computed of dependents are those of the modules that reach each module.
use Rattle.std.proofs.Common.{◌≡◌, ◌==◌, ◌||◌, ◌↔◌, ℕ, zero, suc, ◌+◌, ◌<◌, ◌≤◌, ◌⊎◌, inl, inr, ⊎_elim, Bool, true, false, cond, List, [], ◌∷◌, ◌++◌, length, get_or, Contains, refl, sym, ap, subst, ◌∙◌, arith, add-one, length-append}
use Rattle.std.specs.List.{list_any}
use Rattle.std.specs.List.Sorted.{IsStrictlyIncreasing}
use Rattle.std.proofs.lemmas.Bool.{cases_lt, eq-eqb, eqb-true, false≢true, or_cases, or_left, or_right}
use Rattle.std.proofs.lemmas.List.{append-nil, get_or_append_left, get_or_past, get_or_push}
use Rattle.std.proofs.lemmas.List.Sums.{fold-append}
use Rattle.std.proofs.lemmas.List.Elements.{Contains-append_left}
use Rattle.std.proofs.lemmas.List.Folds.{list_any_at}
use Rattle.hm_graph_components.specs.Closure.{one, more}
use Rattle.hm_graph_components.specs.Digraph.{Graph, Edge, Reaches}
use Rattle.hm_graph_components.proofs.Closures.{Closure-trans}
use Rattle.hm_graph_components.proofs.Graphs.{Reaches-within}
use Rattle.hm_graph_components.proofs.Members.{Contains-nil, Contains-push_cases, Contains-push_new}
use Rattle.hm_graph_components.proofs.Rows.{IsStrictlyIncreasing-push}
use Rattle.hm_store.specs.Plans.{AreDependents}
use Rattle.hm_store.specs.Objects.{skip, skip_all}
use Rattle.hm_store.specs.declared.object.Status.{Status}
use Rattle.hm_store.specs.Reaching.{below, dependents_in, reaches_by, tabled}

-- an element that passes the test
first_in : (x : ℕ) (xs : List ℕ) → Contains (x ∷ xs) x
first_in x xs = (0, omega arith, refl)

later_in : (x : ℕ) (xs : List ℕ) (y : ℕ) → Contains xs y → Contains (x ∷ xs) y
later_in x xs y (k, lt, is) = (suc k, omega (arith, lt), is)

any_at : (p : ℕ → Bool) (xs : List ℕ) → list_any p xs ≡ true → (x : ℕ) × (Contains xs x × (p x ≡ true))
any_at p [] h = absurd (false≢true h)
any_at p (x ∷ xs) h = ⊎_elim
    (λ (e : p x ≡ true). (x, (first_in x xs, e)))
    (λ (e : list_any p xs ≡ true). let r = any_at p xs e in (r.0, (later_in x xs r.0 r.1.0, r.1.1)))
    (or_cases (p x) (list_any p xs) h)

any_from : (p : ℕ → Bool) (xs : List ℕ) (x : ℕ) → Contains xs x → p x ≡ true → list_any p xs ≡ true
any_from p xs x (k, lt, is) h = list_any_at p xs k x lt (ap p is ∙ h)

-- the numbers below a bound
below_more : (p : ℕ → Bool) (n : ℕ) → length (below p (suc n)) ≡ length (below p n) + cond (p n) 1 0
below_more p n = at (p n)
  where
    at : (b : Bool) → length (below p n ++ cond b (n ∷ []) []) ≡ length (below p n) + cond b 1 0
    at true = length-append (below p n) (n ∷ [])
    at false = length-append (below p n) []

below_as : (p : ℕ → Bool) (n : ℕ) (b : Bool) → p n ≡ b → length (below p (suc n)) ≡ length (below p n) + cond b 1 0
below_as p n b e = below_more p n ∙ ap (λ (c : Bool). length (below p n) + cond c 1 0) e

below_length : (p : ℕ → Bool) (n : ℕ) → length (below p n) ≤ n
below_length p zero = omega arith
below_length p (suc n) =
    let l = below_length p n in
    let m = below_more p n in
    let one_at_most : cond (p n) 1 0 ≤ 1 = elim (p n) as (λ b. cond b 1 0 ≤ 1) [ true ↦ omega arith | false ↦ omega arith ] in
    omega (arith, l, m, one_at_most)

module _ (p q : ℕ → Bool) (includes : (k : ℕ) → p k ≡ true → q k ≡ true) where
  fewer_at : (n : ℕ) (b c : Bool) → p n ≡ b → q n ≡ c → cond b 1 0 ≤ cond c 1 0
  fewer_at n true true e f = omega arith
  fewer_at n true false e f = absurd (false≢true (sym f ∙ includes n e))
  fewer_at n false true e f = omega arith
  fewer_at n false false e f = omega arith

  fewer : (n : ℕ) → length (below p n) ≤ length (below q n)
  fewer zero = omega arith
  fewer (suc n) = let f = fewer n in let a = below_more p n in let b = below_more q n in let c = fewer_at n (p n) (q n) refl refl in omega (arith, f, a, b, c)

  -- either the tests agree below n, or one has fewer numbers there
  agree_or_fewer : (n : ℕ) → ((k : ℕ) → k < n → q k ≡ true → p k ≡ true) ⊎ (length (below p n) < length (below q n))
  agree_or_fewer zero = inl (λ k lt e. absurd (omega (arith, lt)))
  agree_or_fewer (suc n) = by (p n) (q n) refl refl (agree_or_fewer n)
    where
      by : (b c : Bool) → p n ≡ b → q n ≡ c → ((k : ℕ) → k < n → q k ≡ true → p k ≡ true) ⊎ (length (below p n) < length (below q n)) → ((k : ℕ) → k < suc n → q k ≡ true → p k ≡ true) ⊎ (length (below p (suc n)) < length (below q (suc n)))
      by b c e f (inr less) = let x = below_more p n in let y = below_more q n in let z = fewer_at n (p n) (q n) refl refl in inr (omega (arith, less, x, y, z))
      by false true e f (inl same) =
          let x : length (below p (suc n)) ≡ length (below p n) + 0 = below_as p n _ e in
          let y : length (below q (suc n)) ≡ length (below q n) + 1 = below_as q n _ f in
          let z = fewer n in
          inr (omega (arith, x, y, z))
      by true c e f (inl same) = inl (λ k lt h. ⊎_elim (λ (l : k < n). same k l h) (λ (past : n ≤ k). let here : k ≡ n = omega (arith, lt, past) in ap p here ∙ e) (cases_lt k n))
      by false false e f (inl same) = inl (λ k lt h. ⊎_elim (λ (l : k < n). same k l h) (λ (past : n ≤ k). let here : n ≡ k = omega (arith, lt, past) in absurd (false≢true (sym f ∙ (ap q here ∙ h)))) (cases_lt k n))

all_below : (p : ℕ → Bool) (n : ℕ) → n ≤ length (below p n) → (k : ℕ) → k < n → p k ≡ true
all_below p zero full k lt = absurd (omega (arith, lt))
all_below p (suc n) full k lt = by (p n) refl (all_below p n)
  where
    by : (b : Bool) → p n ≡ b → (n ≤ length (below p n) → (x : ℕ) → x < n → p x ≡ true) → p k ≡ true
    by false e before = let m : length (below p (suc n)) ≡ length (below p n) + 0 = below_as p n _ e in let l = below_length p n in absurd (omega (arith, full, m, l))
    by true e before =
        let m : length (below p (suc n)) ≡ length (below p n) + 1 = below_as p n _ e in
        ⊎_elim (λ (l : k < n). before (omega (arith, full, m)) k l) (λ (past : n ≤ k). let here : k ≡ n = omega (arith, lt, past) in ap p here ∙ e) (cases_lt k n)

module _ (is : Graph) (m : ℕ) where
  sound : (n k : ℕ) → reaches_by is m n k ≡ true → Reaches is k m
  sound zero k h = absurd (false≢true h)
  sound (suc n) k h =
      let r = any_at (λ j. (j == m) || reaches_by is m n j) (get_or is k []) h in
      ⊎_elim
      (λ (e : (r.0 == m) ≡ true). one (subst (λ x. Edge is k x) (eqb-true r.0 m e) r.1.0))
      (λ (e : reaches_by is m n r.0 ≡ true). Closure-trans (one r.1.0) (sound n r.0 e))
      (or_cases (r.0 == m) (reaches_by is m n r.0) r.1.1)

  step : (n k j : ℕ) → Edge is k j → (j ≡ m) ⊎ (reaches_by is m n j ≡ true) → reaches_by is m (suc n) k ≡ true
  step n k j edge (inl e) = any_from (λ x. (x == m) || reaches_by is m n x) (get_or is k []) j edge (or_left (j == m) (reaches_by is m n j) (eq-eqb j m e))
  step n k j edge (inr h) = any_from (λ x. (x == m) || reaches_by is m n x) (get_or is k []) j edge (or_right (j == m) (reaches_by is m n j) h)

  -- what leads on from a path of at most n imports
  led : (n k : ℕ) → reaches_by is m (suc n) k ≡ true → (j : ℕ) × (Edge is k j × ((j ≡ m) ⊎ (reaches_by is m n j ≡ true)))
  led n k h =
      let r = any_at (λ j. (j == m) || reaches_by is m n j) (get_or is k []) h in
      (r.0, (r.1.0, ⊎_elim (λ (e : (r.0 == m) ≡ true). inl (eqb-true r.0 m e)) (λ (e : reaches_by is m n r.0 ≡ true). inr e) (or_cases (r.0 == m) (reaches_by is m n r.0) r.1.1)))

  longer : (n k : ℕ) → reaches_by is m n k ≡ true → reaches_by is m (suc n) k ≡ true
  longer zero k h = absurd (false≢true h)
  longer (suc n) k h = let r = led n k h in step (suc n) k r.0 r.1.0 (⊎_elim (λ (e : r.0 ≡ m). inl e) (λ (e : reaches_by is m n r.0 ≡ true). inr (longer n r.0 e)) r.1.1)

  abbrev Settled : ℕ → Type 0
  Settled n = (k : ℕ) → k < length is → reaches_by is m (suc n) k ≡ true → reaches_by is m n k ≡ true

  still : (n : ℕ) → Settled n → Settled (suc n)
  still n h k lt r = let l = led (suc n) k r in
      step n k l.0 l.1.0 (⊎_elim (λ (e : l.0 ≡ m). inl e) (λ (e : reaches_by is m (suc n) l.0 ≡ true). inr (h l.0 (Reaches-within is l.0 m (sound (suc n) l.0 e)) e)) l.1.1)

  settled_or_many : (n : ℕ) → Settled n ⊎ (n ≤ length (below (reaches_by is m n) (length is)))
  settled_or_many zero = inr (omega arith)
  settled_or_many (suc n) = ⊎_elim
      (λ (h : Settled n). inl (still n h))
      (λ (many : n ≤ length (below (reaches_by is m n) (length is))). ⊎_elim
      (λ (h : Settled n). inl (still n h))
      (λ (less : length (below (reaches_by is m n) (length is)) < length (below (reaches_by is m (suc n)) (length is))). inr (omega (arith, many, less)))
      (agree_or_fewer (reaches_by is m n) (reaches_by is m (suc n)) (longer n) (length is)))
      (settled_or_many n)

  settled : Settled (length is)
  settled = ⊎_elim (λ (h : Settled (length is)). h) (λ (many : length is ≤ length (below (reaches_by is m (length is)) (length is))). λ k lt r. all_below (reaches_by is m (length is)) (length is) many k lt) (settled_or_many (length is))

  complete : (k b : ℕ) → Reaches is k b → (b ≡ m) ⊎ (reaches_by is m (length is) b ≡ true) → reaches_by is m (length is) k ≡ true
  complete k b (one edge) h = settled k (Reaches-within is k b (one edge)) (step (length is) k b edge h)
  complete k b (more {b = c} path edge) h = complete k c path (inr (settled c (Reaches-within is c b (one edge)) (step (length is) c b edge h)))

-- what stands in the lists
below_members : (p : ℕ → Bool) (n k : ℕ) → Contains (below p n) k ↔ ((k < n) × (p k ≡ true))
below_members p zero k = ((λ c. absurd (Contains-nil k c)), (λ h. let l = h.0 in absurd (omega (arith, l))))
below_members p (suc n) k = at (p n) refl (below_members p n k)
  where
    at : (b : Bool) → p n ≡ b → Contains (below p n) k ↔ ((k < n) × (p k ≡ true)) → Contains (below p n ++ cond b (n ∷ []) []) k ↔ ((k < suc n) × (p k ≡ true))
    at true e before = (
      (λ c. ⊎_elim (λ (old : Contains (below p n) k). let r = before.0 old in (let l = r.0 in omega (arith, l), r.1)) (λ (same : k ≡ n). (omega (arith, same), ap p same ∙ e)) (Contains-push_cases (below p n) n k c)),
      (λ h. ⊎_elim (λ (l : k < n). Contains-append_left (below p n) (n ∷ []) k (before.1 (l, h.1))) (λ (past : n ≤ k). Contains-push_new (below p n) n k (let l = h.0 in omega (arith, l, past))) (cases_lt k n)),
    )
    at false e before = rw (append-nil (below p n)) (
      (λ c. let r = before.0 c in (let l = r.0 in omega (arith, l), r.1)),
      (λ h. before.1 (⊎_elim (λ (l : k < n). l) (λ (past : n ≤ k). let here : n ≡ k = (let l = h.0 in omega (arith, l, past)) in absurd (false≢true (sym e ∙ (ap p here ∙ h.1)))) (cases_lt k n), h.1)),
    )

below_ascends : (p : ℕ → Bool) (n : ℕ) → IsStrictlyIncreasing (below p n)
below_ascends p zero = λ k lt. absurd (omega (arith, lt))
below_ascends p (suc n) = at (p n) (below_ascends p n)
  where
    at : (b : Bool) → IsStrictlyIncreasing (below p n) → IsStrictlyIncreasing (below p n ++ cond b (n ∷ []) [])
    at true before = IsStrictlyIncreasing-push (below p n) n before (λ x c. ((below_members p n x).0 c).0)
    at false before = rw (append-nil (below p n)) before

tabled_length : (f : ℕ → List ℕ) (n : ℕ) → length (tabled f n) ≡ n
tabled_length f zero = refl
tabled_length f (suc n) = let l = length-append (tabled f n) (f n ∷ []) in let t = tabled_length f n in omega (arith, l, t)

tabled_at : (f : ℕ → List ℕ) (n m : ℕ) → m < n → get_or (tabled f n) m [] ≡ f m
tabled_at f zero m lt = absurd (omega (arith, lt))
tabled_at f (suc n) m lt = ⊎_elim
    (λ (l : m < n). get_or_append_left (tabled f n) (f n ∷ []) [] m (let t = tabled_length f n in omega (arith, l, t)) ∙ tabled_at f n m l)
    (λ (past : n ≤ m). let here : m ≡ n = omega (arith, lt, past) in rw here (get_or_push (tabled f n) (f n) [] n (tabled_length f n)))
    (cases_lt m n)

pub dependents_are : (is : Graph) → AreDependents (record { imports = is; dependents = dependents_in is })
dependents_are is = record {
  len = tabled_length (λ m. below (reaches_by is m (length is)) (length is)) (length is);
  each = λ m lt. rw (tabled_at (λ x. below (reaches_by is x (length is)) (length is)) (length is) m lt) record {
    members = λ k. (
      (λ c. sound is m (length is) k ((below_members (reaches_by is m (length is)) (length is) k).0 c).1),
      (λ path. (below_members (reaches_by is m (length is)) (length is) k).1 (Reaches-within is k m path, complete is m k m path (inl refl))),
    );
    ascending = below_ascends (reaches_by is m (length is)) (length is);
  };
}

-- marks of the modules that reach a module are at its list
same_tests : (p q : ℕ → Bool) → ((k : ℕ) → p k ≡ q k) → (n : ℕ) → below p n ≡ below q n
same_tests p q same zero = refl
same_tests p q same (suc n) = rw (same_tests p q same n, same n) refl

both_or_none : (b c : Bool) → (b ≡ true → c ≡ true) → (c ≡ true → b ≡ true) → b ≡ c
both_or_none true c f g = sym (f refl)
both_or_none false true f g = g refl
both_or_none false false f g = refl

pub marked_list : (is : Graph) (marks : List Bool) (m : ℕ) → m < length is → length marks ≡ length is → ((k : ℕ) → (get_or marks k false ≡ true) ↔ Reaches is k m)
    → below (λ k. get_or marks k false) (length marks) ≡ get_or (dependents_in is) m []
marked_list is marks m lt len marked =
    let agree : (k : ℕ) → get_or marks k false ≡ reaches_by is m (length is) k = λ k. both_or_none (get_or marks k false) (reaches_by is m (length is) k)
    (λ e. complete is m k m ((marked k).0 e) (inl refl)) (λ e. (marked k).1 (sound is m (length is) k e)) in
    ap (below (λ k. get_or marks k false)) len ∙ (same_tests (λ k. get_or marks k false) (reaches_by is m (length is)) agree (length is)
    ∙ sym (tabled_at (λ x. below (reaches_by is x (length is)) (length is)) (length is) m lt))

-- a number that no module has has an empty list
pub no_list : (is : Graph) (m : ℕ) → length is ≤ m → get_or (dependents_in is) m [] ≡ []
no_list is m past = get_or_past (dependents_in is) m [] (let l = tabled_length (λ x. below (reaches_by is x (length is)) (length is)) (length is) in omega (arith, l, past))

pub skip_below : (p : ℕ → Bool) (ss : List Status) (n : ℕ) → skip_all (skip_all ss (below p n)) (cond (p n) (n ∷ []) []) ≡ skip_all ss (below p (n + 1))
skip_below p ss n = rw add-one (sym (fold-append skip ss (below p n) (cond (p n) (n ∷ []) [])))
