-- What a reply says of the statuses.
use Rattle.std.proofs.Common.{◌≡◌, ℕ, zero, suc, ◌<◌, inl, inr, Bool, true, false, cond, List, length, get_or, Option, Some, None, refl, sym, ap, ◌∙◌, arith}
use Rattle.std.specs.List.{list_any, list_all}
use Rattle.std.proofs.lemmas.List.Elements.{All-contains, Contains-get_or}
use Rattle.std.proofs.lemmas.List.Sums.{AllPass-from_list_all, list_all-from_AllPass}
use Rattle.std.proofs.lemmas.List.Folds.{list_any_at}
use Rattle.std.proofs.lemmas.Bool.{and_parts, cases_order, false≢true}
use Rattle.hm_graph_components.specs.Digraph.{Edge}
use Rattle.hm_store.specs.Plans.{Given, imports_of}
use Rattle.hm_store.specs.Objects.{State, status_at, is_waiting, is_claimed, is_published, is_ready, or_here, least_below, job_or, reply_of}
use Rattle.hm_store.specs.declared.object.Status.{Status}
use Rattle.hm_store.specs.declared.object.Status.TheVariants.{Waiting, Claimed, Published, Failed, Skipped}
use Rattle.hm_store.specs.declared.object.Claimed.TheVariants.{Job, Done}
use Rattle.hm_store.proofs.Skipping.{waits}

job_split : (b : Bool) (o : Option ℕ) (l : Bool) (m : ℕ) → cond b Done (job_or o l) ≡ Job m → (b ≡ false) × (o ≡ Some m)
job_split true o l m h = absurd (cc)
job_split false None true m h = absurd (cc)
job_split false None false m h = absurd (cc)
job_split false (Some k) l m h = let e : k ≡ m = cc in (refl, ap (λ (n : ℕ). Some n) e)

least_step : (p : ℕ → Bool) (n m : ℕ) (o : Option ℕ) (b : Bool) → (o ≡ Some m → (m < n) × (p m ≡ true)) → p n ≡ b → or_here o b n ≡ Some m → (m < suc n) × (p m ≡ true)
least_step p n m (Some k) b ih pb h = let r = ih h in (omega (arith, r.0), r.1)
least_step p n m None true ih pb h = let e : n ≡ m = cc in (omega arith, rw (← e) pb)
least_step p n m None false ih pb h = absurd (cc)

least_is_one : (p : ℕ → Bool) (n m : ℕ) → least_below p n ≡ Some m → (m < n) × (p m ≡ true)
least_is_one p zero m h = absurd (cc)
least_is_one p (suc n) m h = least_step p n m (least_below p n) (p n) (least_is_one p n m) refl h

least_none : (p : ℕ → Bool) (n m : ℕ) → least_below p n ≡ None → m < n → p m ≡ false
least_none p zero m h lt = absurd (omega (arith, lt))
least_none p (suc n) m h lt = at (least_below p n) (p n) (λ e below. least_none p n m e below) refl h
  where
    at : (o : Option ℕ) (b : Bool) → (o ≡ None → m < n → p m ≡ false) → p n ≡ b → or_here o b n ≡ None → p m ≡ false
    at (Some k) b ih pb e = absurd (cc)
    at None true ih pb e = absurd (cc)
    at None false ih pb e = elim (cases_order m n) [ inl same ↦ ap p same ∙ pb | inr (inl below) ↦ ih refl below | inr (inr above) ↦ absurd (omega (arith, lt, above)) ]

is_published-is : (s : Status) → is_published s ≡ true → s ≡ Published
is_published-is Waiting h = absurd (cc)
is_published-is (Claimed w) h = absurd (cc)
is_published-is Published h = refl
is_published-is Failed h = absurd (cc)
is_published-is Skipped h = absurd (cc)

-- a job is a module that waits, and its imports are published
pub job_is_ready : (g : Given) (s : State) (m : ℕ) → reply_of g s ≡ Job m → (m < length s.statuses) × ((status_at s.statuses m ≡ Waiting) × ((k : ℕ) → Edge g.imports m k → status_at s.statuses k ≡ Published))
job_is_ready g s m h = let j = job_split s.stopped (least_below (is_ready g s.statuses) (length s.statuses)) (list_any is_claimed s.statuses) m h in
    let l = least_is_one (is_ready g s.statuses) (length s.statuses) m j.1 in
    let test : ℕ → Bool = λ k. is_published (status_at s.statuses k) in
    let parts = and_parts (is_waiting (status_at s.statuses m)) (list_all test (imports_of g m)) l.1 in
    let all = AllPass-from_list_all test (imports_of g m) parts.1 in
    (l.0, (waits (status_at s.statuses m) parts.0, λ k edge. is_published-is (status_at s.statuses k) (All-contains (λ n. test n ≡ true) (imports_of g m) k all edge)))

done_split : (b : Bool) (o : Option ℕ) (l : Bool) → b ≡ false → cond b Done (job_or o l) ≡ Done → (o ≡ None) × (l ≡ false)
done_split true o l e h = absurd (cc)
done_split false None true e h = absurd (cc)
done_split false None false e h = (refl, refl)
done_split false (Some k) l e h = absurd (cc)

all_published : (g : Given) (ss : List Status) (m : ℕ) → ((k : ℕ) → Edge g.imports m k → status_at ss k ≡ Published) → list_all (λ k. is_published (status_at ss k)) (imports_of g m) ≡ true
all_published g ss m h = list_all-from_AllPass (λ k. is_published (status_at ss k)) (imports_of g m) (λ i d lt. ap is_published (h (get_or (imports_of g m) i d) (Contains-get_or (imports_of g m) i d lt)))

-- where nothing is left to do and the build isn't stopped, no module is claimed, and none that waits has all its imports published
pub done_is_idle : (g : Given) (s : State) → reply_of g s ≡ Done → s.stopped ≡ false → (m : ℕ) → m < length s.statuses
    → (is_claimed (status_at s.statuses m) ≡ false) × (status_at s.statuses m ≡ Waiting → ¬ ((k : ℕ) → Edge g.imports m k → status_at s.statuses k ≡ Published))
done_is_idle g s h going m lt = let d = done_split s.stopped (least_below (is_ready g s.statuses) (length s.statuses)) (list_any is_claimed s.statuses) going h in
    (none d.1 (is_claimed (status_at s.statuses m)) refl, λ w all. false≢true (sym (least_none (is_ready g s.statuses) (length s.statuses) m d.0 lt) ∙ ready w all))
  where
    none : list_any is_claimed s.statuses ≡ false → (b : Bool) → is_claimed (status_at s.statuses m) ≡ b → is_claimed (status_at s.statuses m) ≡ false
    none e true is = absurd (false≢true (sym e ∙ list_any_at is_claimed s.statuses m Skipped lt is))
    none e false is = is

    ready : status_at s.statuses m ≡ Waiting → ((k : ℕ) → Edge g.imports m k → status_at s.statuses k ≡ Published) → is_ready g s.statuses m ≡ true
    ready w all = rw w (all_published g s.statuses m all)
