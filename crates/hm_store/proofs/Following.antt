-- In each state of a build: what is claimed or done has its imports published, and what is skipped an import that isn't.
use Rattle.std.proofs.Common.{◌≡◌, ◌≢◌, ℕ, ◌<◌, ◌⊎◌, inl, inr, ⊎_elim, Bool, true, false, List, [], ◌∷◌, length, set, Contains, refl, sym, ap, subst, ◌∙◌}
use Rattle.std.proofs.lemmas.List.{length-set, length-replicate, get_or-set_same, get_or-set_other, get_or-replicate}
use Rattle.std.proofs.lemmas.Bool.{cases_eq, false≢true}
use Rattle.hm_graph_components.specs.Closure.{one, more}
use Rattle.hm_graph_components.specs.Digraph.{Graph, Edge, Reaches}
use Rattle.hm_graph_components.specs.Marks.{IsClosed}
use Rattle.hm_graph_components.proofs.Closures.{Closure-within, Closure-trans}
use Rattle.hm_store.specs.Plans.{Given, AreDependents, dependents_of}
use Rattle.hm_store.specs.Objects.{State, status_at, is_waiting, is_claimed, is_published, reply_of, skip_all, after, Allowed, AllowedFrom, state_from, state_after, opening, IsAllowed}
use Rattle.hm_store.specs.declared.object.Status.{Status}
use Rattle.hm_store.specs.declared.object.Status.TheVariants.{Waiting, Claimed, Published, Failed, Skipped}
use Rattle.hm_store.specs.declared.object.Entry.{Entry}
use Rattle.hm_store.specs.declared.object.Entry.TheVariants.{Claim, Publish, Fail, Stop}
use Rattle.hm_store.specs.declared.object.Claimed.TheVariants.{Job}
use Rattle.hm_store.proofs.ReadyModules.{job_is_ready}
use Rattle.hm_store.proofs.Skipping.{within, IsSkipOf, skipped, length-skips}

-- claimed, published or failed
abbrev pub is_started : Status → Bool
is_started Waiting = false
is_started (Claimed w) = true
is_started Published = true
is_started Failed = true
is_started Skipped = false

-- failed or skipped
abbrev pub is_lost : Status → Bool
is_lost Waiting = false
is_lost (Claimed w) = false
is_lost Published = false
is_lost Failed = true
is_lost Skipped = true

-- two statuses that a test tells apart
differ : (test : Status → Bool) (s t : Status) → test s ≡ true → test t ≡ false → s ≢ t
differ test s t first second e = false≢true (sym second ∙ (ap test (sym e) ∙ first))

-- the statuses go along with the imports
pub record IsFollowing (g : Given) (ss : List Status) : Type 0 where
  pub len : length ss ≡ length g.imports
  pub ready : (m k : ℕ) → is_started (status_at ss m) ≡ true → Edge g.imports m k → status_at ss k ≡ Published
  pub waiting : (m k : ℕ) → Edge g.imports m k → is_lost (status_at ss k) ≡ true → status_at ss m ≢ Waiting
  pub lost : (m : ℕ) → m < length ss → status_at ss m ≡ Skipped → (k : ℕ) × (Edge g.imports m k × (is_lost (status_at ss k) ≡ true))

-- module m, which has a status that is neither published nor lost and whose imports are published, gets the status s
module _ (g : Given) (ss : List Status) (m : ℕ) (s : Status) (h : IsFollowing g ss) (lt : m < length ss) (open_still : is_published (status_at ss m) ≡ false) (not_lost : is_lost (status_at ss m) ≡ false)
    (begun : is_started s ≡ true) (published : (k : ℕ) → Edge g.imports m k → status_at ss k ≡ Published) where
  here : status_at (set ss m s) m ≡ s
  here = get_or-set_same ss m s Skipped lt

  there : (k : ℕ) → k ≢ m → status_at (set ss m s) k ≡ status_at ss k
  there k n = get_or-set_other ss m k s Skipped n

  published_stays : (k : ℕ) → status_at ss k ≡ Published → status_at (set ss m s) k ≡ Published
  published_stays k e = there k (λ f. false≢true (sym open_still ∙ ap is_published (ap (status_at ss) (sym f) ∙ e))) ∙ e

  lost_stays : (k : ℕ) → is_lost (status_at ss k) ≡ true → is_lost (status_at (set ss m s) k) ≡ true
  lost_stays k e = ap is_lost (there k (λ f. false≢true (sym not_lost ∙ (ap (λ n. is_lost (status_at ss n)) (sym f) ∙ e)))) ∙ e

  pub ready_put : (x k : ℕ) → is_started (status_at (set ss m s) x) ≡ true → Edge g.imports x k → status_at (set ss m s) k ≡ Published
  ready_put x k b edge = published_stays k (⊎_elim
      (λ (e : x ≡ m). published k (subst (λ n. Edge g.imports n k) e edge))
      (λ (n : x ≢ m). h.ready x k (ap is_started (sym (there x n)) ∙ b) edge)
      (cases_eq x m))

  pub lost_put : (x : ℕ) → x < length (set ss m s) → status_at (set ss m s) x ≡ Skipped → (k : ℕ) × (Edge g.imports x k × (is_lost (status_at (set ss m s) k) ≡ true))
  lost_put x l e = ⊎_elim
      (λ (f : x ≡ m). absurd (differ is_started s Skipped begun refl (sym here ∙ (ap (status_at (set ss m s)) (sym f) ∙ e))))
      (λ (n : x ≢ m). let r = h.lost x (subst (λ z. x < z) (length-set ss m s) l) (sym (there x n) ∙ e) in (r.0, (r.1.0, lost_stays r.0 r.1.1)))
      (cases_eq x m)

  waiting_put : is_lost s ≡ false → (x k : ℕ) → Edge g.imports x k → is_lost (status_at (set ss m s) k) ≡ true → status_at (set ss m s) x ≢ Waiting
  waiting_put kept x k edge lost w = ⊎_elim
      (λ (f : x ≡ m). differ is_started s Waiting begun refl (sym here ∙ (ap (status_at (set ss m s)) (sym f) ∙ w)))
      (λ (n : x ≢ m). h.waiting x k edge (ap is_lost (sym (there k k_other)) ∙ lost) (sym (there x n) ∙ w))
      (cases_eq x m)
    where
      k_other : k ≢ m
      k_other f = false≢true (sym kept ∙ (ap is_lost (sym here ∙ ap (status_at (set ss m s)) (sym f)) ∙ lost))

  pub put : is_lost s ≡ false → IsFollowing g (set ss m s)
  put kept = record { len = length-set ss m s ∙ h.len; ready = ready_put; waiting = waiting_put kept; lost = lost_put }

-- what is reached from a module that is claimed or done is published
pub reached_is_published : (g : Given) (ss : List Status) → IsFollowing g ss → (k m : ℕ) → is_started (status_at ss k) ≡ true → Reaches g.imports k m → status_at ss m ≡ Published
reached_is_published g ss h k m b = Closure-within (λ n. status_at ss n ≡ Published) (λ y edge. h.ready k y b edge) (λ x y e edge. h.ready x y (ap is_started e) edge)

-- a path begins with a step
pub first_step : (graph : Graph) (x m : ℕ) → Reaches graph x m → (k : ℕ) × (Edge graph x k × ((k ≡ m) ⊎ Reaches graph k m))
first_step graph x m (one edge) = (m, (edge, inl refl))
first_step graph x m (more {b = y} path edge) = let r = first_step graph x y path in
    (r.0, (r.1.0, inr (⊎_elim (λ (e : r.0 ≡ y). one (subst (λ n. Edge graph n m) (sym e) edge)) (λ (p : Reaches graph r.0 y). more p edge) r.1.1)))

-- a module that is skipped now, or stays
IsSkipOf-lost : (ks : List ℕ) (x : ℕ) (old new : Status) → IsSkipOf ks x old new → is_lost old ≡ true → is_lost new ≡ true
IsSkipOf-lost ks x old new (inl a) l = ap is_lost a.1.1
IsSkipOf-lost ks x old new (inr a) l = ap is_lost a.0 ∙ l

IsSkipOf-published : (ks : List ℕ) (x : ℕ) (old new : Status) → IsSkipOf ks x old new → old ≡ Published → new ≡ Published
IsSkipOf-published ks x old new (inl a) p = absurd (differ is_published Published Waiting refl refl (sym p ∙ a.1.0))
IsSkipOf-published ks x old new (inr a) p = a.0 ∙ p

IsSkipOf-started : (ks : List ℕ) (x : ℕ) (old new : Status) → IsSkipOf ks x old new → is_started new ≡ true → is_started old ≡ true
IsSkipOf-started ks x old new (inl a) b = absurd (differ is_started new Skipped b refl a.1.1)
IsSkipOf-started ks x old new (inr a) b = ap is_started (sym a.0) ∙ b

IsSkipOf-waiting : (ks : List ℕ) (x : ℕ) (old new : Status) → IsSkipOf ks x old new → new ≡ Waiting → (old ≡ Waiting) × ¬ Contains ks x
IsSkipOf-waiting ks x old new (inl a) w = absurd (differ is_waiting Waiting Skipped refl refl (sym w ∙ a.1.1))
IsSkipOf-waiting ks x old new (inr a) w = (sym a.0 ∙ w, a.1 (sym a.0 ∙ w))

-- a status by what it may be, for an import on the way to a module that failed
by_kind : (s : Status) → (is_lost s ≡ true) ⊎ ((s ≡ Waiting) ⊎ (is_started s ≡ true))
by_kind Waiting = inr (inl refl)
by_kind (Claimed w) = inr (inr refl)
by_kind Published = inr (inr refl)
by_kind Failed = inl refl
by_kind Skipped = inl refl

-- the same, with what is skipped for itself
by_skip : (s : Status) → (s ≡ Skipped) ⊎ ((s ≡ Waiting) ⊎ (is_started s ≡ true))
by_skip Waiting = inr (inl refl)
by_skip (Claimed w) = inr (inr refl)
by_skip Published = inr (inr refl)
by_skip Failed = inr (inr refl)
by_skip Skipped = inl refl

-- a module that is one of these, and waits or is skipped, is skipped then
is_skipped : (ks : List ℕ) (x : ℕ) (old new : Status) → IsSkipOf ks x old new → Contains ks x → (old ≡ Skipped) ⊎ (old ≡ Waiting) → new ≡ Skipped
is_skipped ks x old new (inl a) c k = a.1.1
is_skipped ks x old new (inr a) c (inl s) = a.0 ∙ s
is_skipped ks x old new (inr a) c (inr w) = absurd (a.1 w c)

-- module m, which was claimed, fails, and what depends on it is skipped
module _ (g : Given) (ss : List Status) (m w : ℕ) (h : IsFollowing g ss) (is : status_at ss m ≡ Claimed w) (dependents : AreDependents g) where
  m_within : m < length ss
  m_within = within ss m (differ is_claimed (status_at ss m) Skipped (ap is_claimed is) refl)

  mid : List Status
  mid = set ss m Failed

  end : List Status
  unfolding mid
  end = skip_all mid (dependents_of g m)

  failed_here : status_at mid m ≡ Failed
  unfolding mid
  failed_here = get_or-set_same ss m Failed Skipped m_within

  as_before : (k : ℕ) → k ≢ m → status_at mid k ≡ status_at ss k
  unfolding mid
  as_before k n = get_or-set_other ss m k Failed Skipped n

  depends : (x : ℕ) → Reaches g.imports x m → Contains (dependents_of g m) x
  depends x r = ((dependents.each m (subst (λ n. m < n) h.len m_within)).members x).1 r

  reaches : (x : ℕ) → Contains (dependents_of g m) x → Reaches g.imports x m
  reaches x c = ((dependents.each m (subst (λ n. m < n) h.len m_within)).members x).0 c

  at : (x : ℕ) → IsSkipOf (dependents_of g m) x (status_at mid x) (status_at end x)
  unfolding mid end
  at x = skipped (dependents_of g m) mid x

  published : (k : ℕ) → Edge g.imports m k → status_at ss k ≡ Published
  published k edge = h.ready m k (ap is_started is) edge

  ready_mid : (x k : ℕ) → is_started (status_at mid x) ≡ true → Edge g.imports x k → status_at mid k ≡ Published
  unfolding mid
  ready_mid = ready_put g ss m Failed h m_within (ap is_published is) (ap is_lost is) refl published

  lost_mid : (x : ℕ) → x < length mid → status_at mid x ≡ Skipped → (k : ℕ) × (Edge g.imports x k × (is_lost (status_at mid k) ≡ true))
  unfolding mid
  lost_mid = lost_put g ss m Failed h m_within (ap is_published is) (ap is_lost is) refl published

  lost_end : (x : ℕ) → is_lost (status_at mid x) ≡ true → is_lost (status_at end x) ≡ true
  lost_end x l = IsSkipOf-lost (dependents_of g m) x (status_at mid x) (status_at end x) (at x) l

  ready_end : (x k : ℕ) → is_started (status_at end x) ≡ true → Edge g.imports x k → status_at end k ≡ Published
  ready_end x k b edge = IsSkipOf-published (dependents_of g m) k (status_at mid k) (status_at end k) (at k)
      (ready_mid x k (IsSkipOf-started (dependents_of g m) x (status_at mid x) (status_at end x) (at x) b) edge)

  -- what reaches m isn't waiting any longer
  not_waiting : (x : ℕ) → Reaches g.imports x m → status_at end x ≢ Waiting
  not_waiting x r e = (IsSkipOf-waiting (dependents_of g m) x (status_at mid x) (status_at end x) (at x) e).1 (depends x r)

  waiting_end : (x k : ℕ) → Edge g.imports x k → is_lost (status_at end k) ≡ true → status_at end x ≢ Waiting
  waiting_end x k edge l e = by (at k)
    where
      kept : IsSkipOf (dependents_of g m) k (status_at mid k) (status_at end k) → status_at end k ≡ status_at mid k → k ≢ m → ⊥
      kept s same n = let old = (IsSkipOf-waiting (dependents_of g m) x (status_at mid x) (status_at end x) (at x) e).0 in
          let other : x ≢ m = λ f. differ is_started Failed Waiting refl refl (sym failed_here ∙ (ap (status_at mid) (sym f) ∙ old)) in
          h.waiting x k edge (ap is_lost (sym (as_before k n) ∙ sym same) ∙ l) (sym (as_before x other) ∙ old)

      by : IsSkipOf (dependents_of g m) k (status_at mid k) (status_at end k) → ⊥
      by (inl a) = not_waiting x (Closure-trans (one edge) (reaches k a.0)) e
      by (inr a) = ⊎_elim (λ (f : k ≡ m). not_waiting x (one (subst (λ n. Edge g.imports x n) f edge)) e) (λ (n : k ≢ m). kept (inr a) a.0 n) (cases_eq k m)

  -- an import from which m is reached is lost
  lost_before : (k : ℕ) → Reaches g.imports k m → is_lost (status_at end k) ≡ true
  lost_before k path = ⊎_elim (λ (f : k ≡ m). lost_end k (ap is_lost (ap (status_at mid) f ∙ failed_here))) other (cases_eq k m)
    where
      started : is_started (status_at ss k) ≡ true → ⊥
      started b = differ is_published Published (Claimed w) refl refl (sym (reached_is_published g ss h k m b path) ∙ is)

      skipped_now : status_at mid k ≡ Waiting → IsSkipOf (dependents_of g m) k (status_at mid k) (status_at end k) → is_lost (status_at end k) ≡ true
      skipped_now e (inl a) = ap is_lost a.1.1
      skipped_now e (inr a) = absurd (a.1 e (depends k path))

      other : k ≢ m → is_lost (status_at end k) ≡ true
      other n = ⊎_elim
          (λ (l : is_lost (status_at ss k) ≡ true). lost_end k (ap is_lost (as_before k n) ∙ l))
          (λ (r : (status_at ss k ≡ Waiting) ⊎ (is_started (status_at ss k) ≡ true)). ⊎_elim (λ (e : status_at ss k ≡ Waiting). skipped_now (as_before k n ∙ e) (at k)) (λ (b : is_started (status_at ss k) ≡ true). absurd (started b)) r)
          (by_kind (status_at ss k))

  -- each module from which m is reached is skipped
  pub reaching_skipped : (k : ℕ) → Reaches g.imports k m → status_at (skip_all (set ss m Failed) (dependents_of g m)) k ≡ Skipped
  unfolding mid end
  reaching_skipped k path = is_skipped (dependents_of g m) k (status_at mid k) (status_at end k) (at k) (depends k path) (⊎_elim
      (λ (s : status_at ss k ≡ Skipped). inl (as_before k other ∙ s))
      (λ (r : (status_at ss k ≡ Waiting) ⊎ (is_started (status_at ss k) ≡ true)). ⊎_elim (λ (e : status_at ss k ≡ Waiting). inr (as_before k other ∙ e)) (λ (b : is_started (status_at ss k) ≡ true). absurd (started b)) r)
      (by_skip (status_at ss k)))
    where
      started : is_started (status_at ss k) ≡ true → ⊥
      started b = differ is_published Published (Claimed w) refl refl (sym (reached_is_published g ss h k m b path) ∙ is)

      other : k ≢ m
      other f = started (ap is_started (ap (status_at ss) f ∙ is))

  length-end : length end ≡ length ss
  unfolding mid end
  length-end = length-skips (dependents_of g m) mid ∙ length-set ss m Failed

  length-mid : length mid ≡ length ss
  unfolding mid
  length-mid = length-set ss m Failed

  lost_now : (x : ℕ) → x < length end → status_at end x ≡ Skipped → (k : ℕ) × (Edge g.imports x k × (is_lost (status_at end k) ≡ true))
  lost_now x l e = by (at x)
    where
      by : IsSkipOf (dependents_of g m) x (status_at mid x) (status_at end x) → (k : ℕ) × (Edge g.imports x k × (is_lost (status_at end k) ≡ true))
      by (inl a) = let r = first_step g.imports x m (reaches x a.0) in
          (r.0, (r.1.0, ⊎_elim (λ (f : r.0 ≡ m). lost_end r.0 (ap is_lost (ap (status_at mid) f ∙ failed_here))) (λ (p : Reaches g.imports r.0 m). lost_before r.0 p) r.1.1))
      by (inr a) = let r = lost_mid x (subst (λ n. x < n) (length-end ∙ sym length-mid) l) (sym a.0 ∙ e) in (r.0, (r.1.0, lost_end r.0 r.1.1))

  pub fail_put : IsFollowing g (skip_all (set ss m Failed) (dependents_of g m))
  unfolding mid end
  fail_put = record { len = length-end ∙ h.len; ready = ready_end; waiting = waiting_end; lost = lost_now }

-- all modules wait
pub opening_follows : (g : Given) → IsClosed g.imports → IsFollowing g (opening g).statuses
opening_follows g closed = record {
  len = length-replicate (length g.imports) Waiting;
  ready = λ m k b edge. absurd (unstarted m (within_started m b) b);
  waiting = λ m k edge lost w. differ is_lost (status_at (opening g).statuses k) Waiting lost refl (waits_at k (closed m k edge));
  lost = λ m lt e. absurd (differ is_waiting Waiting Skipped refl refl (sym (waits_at m (subst (λ n. m < n) (length-replicate (length g.imports) Waiting) lt)) ∙ e));
}
  where
    waits_at : (k : ℕ) → k < length g.imports → status_at (opening g).statuses k ≡ Waiting
    waits_at k lt = get_or-replicate (length g.imports) k Waiting Skipped lt

    within_started : (m : ℕ) → is_started (status_at (opening g).statuses m) ≡ true → m < length g.imports
    within_started m b = subst (λ n. m < n) (length-replicate (length g.imports) Waiting) (within (opening g).statuses m (differ is_started (status_at (opening g).statuses m) Skipped b refl))

    unstarted : (m : ℕ) → m < length g.imports → is_started (status_at (opening g).statuses m) ≡ true → ⊥
    unstarted m lt b = differ is_started (status_at (opening g).statuses m) Waiting b refl (waits_at m lt)

module _ (g : Given) (dependents : AreDependents g) where
  claim_follows : (s : State) (w m : ℕ) → IsFollowing g s.statuses → reply_of g s ≡ Job m → IsFollowing g (set s.statuses m (Claimed w))
  claim_follows s w m h job = let j = job_is_ready g s m job in
      put g s.statuses m (Claimed w) h j.0 (ap is_published j.1.0) (ap is_lost j.1.0) refl j.1.1 refl

  publish_follows : (s : State) (w m : ℕ) → IsFollowing g s.statuses → status_at s.statuses m ≡ Claimed w → IsFollowing g (set s.statuses m Published)
  publish_follows s w m h is =
      put g s.statuses m Published h (within s.statuses m (differ is_claimed (status_at s.statuses m) Skipped (ap is_claimed is) refl)) (ap is_published is) (ap is_lost is) refl (λ k edge. h.ready m k (ap is_started is) edge) refl

  entry_follows : (s : State) (e : Entry) → IsFollowing g s.statuses → Allowed g s e → IsFollowing g (after g s e).statuses
  entry_follows s (Claim w m) h a = claim_follows s w m h a
  entry_follows s (Publish w m) h a = publish_follows s w m h a
  entry_follows s (Fail w m) h a = fail_put g s.statuses m w h a dependents
  entry_follows s (Stop w) h a = h

  entries_follow : (s : State) (es : List Entry) → IsFollowing g s.statuses → AllowedFrom g s es → IsFollowing g (state_from g s es).statuses
  entries_follow s [] h a = h
  entries_follow s (e ∷ es) h a = entries_follow (after g s e) es (entry_follows s e h a.0) a.1

  pub journal_follows : (es : List Entry) → IsClosed g.imports → IsAllowed g es → IsFollowing g (state_after g es).statuses
  journal_follows es closed a = entries_follow (opening g) es (opening_follows g closed) a
