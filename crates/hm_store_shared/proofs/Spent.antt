-- The calls that a worker's claims take are at most those for all modules.
use Rattle.std.proofs.Common.{◌≡◌, ◌≢◌, ℕ, zero, suc, ◌+◌, ◌*◌, ◌<◌, ◌≤◌, ◌⊎◌, inl, inr, ⊎_elim, Bool, true, false, cond, List, [], ◌∷◌, ◌++◌, length, set, replicate, eq-eqb, Ok, Err, refl, sym, ap, subst, ◌∙◌, arith}
use Rattle.std.specs.Prelude.{sum_by, slice_index_or}
use Rattle.std.proofs.lemmas.Bool.{cases_eq, cases_lt}
use Rattle.std.proofs.lemmas.List.{get_or-set_same, get_or-set_other, set_past, length-set, length-replicate}
use Rattle.std.proofs.lemmas.List.Elements.{filter-append}
use Rattle.std.proofs.lemmas.List.Sums.{sum_by-append, sum_by-cons}
use Rattle.hm_store.specs.Plans.{Given, dependents_of}
use Rattle.hm_store.specs.Objects.{State, after, all_waiting, Allowed, AllowedFrom, IsAllowed, is_waiting, opening, skip_all, state_from, status_at}
use Rattle.hm_store_journal.specs.Entries.{by, is_by, writer_of}
use Rattle.hm_store_shared.specs.Spending.{calls_for, calls_in}
use Rattle.hm_store.specs.declared.object.Status.{Status}
use Rattle.hm_store.specs.declared.object.Status.TheVariants.{Waiting, Claimed, Published, Failed, Skipped}
use Rattle.hm_store.specs.declared.object.Entry.{Entry}
use Rattle.hm_store.specs.declared.object.Entry.TheVariants.{Claim, Publish, Fail, Stop}
use Rattle.hm_store.specs.declared.object.Turn.TheVariants as turn
use Rattle.hm_store.proofs.Journals.{allowed_more}
use Rattle.hm_store.proofs.ReadyModules.{job_is_ready}
use Rattle.hm_store.proofs.Skipping.{IsSkipOf, length-skips, skipped, waits}
use Rattle.hm_store_shared.specs.Laws.{AnswersTakeNoCalls, ClaimsFit, ClaimsTakeTheirCalls}

marked : (ss : List Status) (m k : ℕ) (new : Status) → new ≢ Waiting → status_at (set ss m new) k ≡ Waiting → status_at ss k ≡ Waiting
marked ss m k new apart is = ⊎_elim
    (λ (eq : k ≡ m). ⊎_elim
    (λ (lt : m < length ss). absurd (apart (sym (ap (status_at (set ss m new)) eq ∙ get_or-set_same ss m new Skipped lt) ∙ is)))
    (λ (past : length ss ≤ m). sym (ap (λ xs. status_at xs k) (set_past ss m new past)) ∙ is)
    (cases_lt m (length ss)))
    (λ (ne : k ≢ m). sym (get_or-set_other ss m k new Skipped ne) ∙ is)
    (cases_eq k m)

unskipped : (ks : List ℕ) (m : ℕ) (old new : Status) → IsSkipOf ks m old new → new ≡ Waiting → old ≡ Waiting
unskipped ks m old new (inl a) is = a.1.0
unskipped ks m old new (inr a) is = sym a.0 ∙ is

-- the calls for the modules that wait
free : List Status → List (List ℕ) → ℕ
free [] rows = 0
free (s ∷ ss) [] = 0
free (s ∷ ss) (row ∷ rows) = cond (is_waiting s) (length row + 2) 0 + free ss rows

least_calls : (a b : Bool) (c m n : ℕ) → (b ≡ true → a ≡ true) → n ≤ m → cond b c 0 + n ≤ cond a c 0 + m
least_calls true true c m n keep le = omega (arith, le)
least_calls true false c m n keep le = omega (arith, le)
least_calls false true c m n keep le = let f : false ≡ true = keep refl in absurd (cc f)
least_calls false false c m n keep le = omega (arith, le)

-- fewer modules wait, so fewer calls are left
fewer_wait : (ss ts : List Status) (rows : List (List ℕ)) → length ts ≡ length ss → ((k : ℕ) → status_at ts k ≡ Waiting → status_at ss k ≡ Waiting) → free ts rows ≤ free ss rows
unfolding free
fewer_wait ss [] rows len keeps = omega arith
fewer_wait [] (t ∷ ts) rows len keeps = absurd (omega (arith, len))
fewer_wait (s ∷ ss) (t ∷ ts) [] len keeps = omega arith
fewer_wait (s ∷ ss) (t ∷ ts) (row ∷ rows) len keeps =
    least_calls (is_waiting s) (is_waiting t) (length row + 2) (free ss rows) (free ts rows) (λ h. ap is_waiting (keeps 0 (waits t h))) (fewer_wait ss ts rows (omega (arith, len)) (λ k h. keeps (suc k) h))

-- a claimed module no longer waits
claim_takes : (ss : List Status) (rows : List (List ℕ)) (m w : ℕ) → m < length ss → length ss ≡ length rows → status_at ss m ≡ Waiting → free (set ss m (Claimed w)) rows + (length (slice_index_or rows m []) + 2) ≤ free ss rows
unfolding free
claim_takes [] rows m w lt len is = absurd (omega (arith, lt))
claim_takes (s ∷ ss) [] m w lt len is = absurd (omega (arith, len))
claim_takes (s ∷ ss) (row ∷ rows) zero w lt len is = rw is (omega arith)
claim_takes (s ∷ ss) (row ∷ rows) (suc m) w lt len is = omega (arith, claim_takes ss rows m w (omega (arith, lt)) (omega (arith, len)) is)

all_free : (rows : List (List ℕ)) → free (all_waiting rows) rows ≡ 2 * length rows + sum_by length rows
unfolding free
all_free [] = refl
all_free (row ∷ rows) = let h = all_free rows in let more : sum_by length (row ∷ rows) ≡ length row + sum_by length rows = sum_by-cons length row rows in let start : free (all_waiting (row ∷ rows)) (row ∷ rows) ≡ length row + 2 + free (all_waiting rows) rows = refl in omega (arith, h, more, start)

-- the entry leaves no module waiting that didn't wait
still_waits : (g : Given) (s : State) (e : Entry) (k : ℕ) → status_at (after g s e).statuses k ≡ Waiting → status_at s.statuses k ≡ Waiting
still_waits g s (Claim w m) k is = marked s.statuses m k (Claimed w) (λ e. absurd (cc e)) is
still_waits g s (Publish w m) k is = marked s.statuses m k Published (λ e. absurd (cc e)) is
still_waits g s (Fail w m) k is =
    let mid : List Status = set s.statuses m Failed in
    marked s.statuses m k Failed (λ e. absurd (cc e)) (unskipped (dependents_of g m) k (status_at mid k) (status_at (after g s (Fail w m)).statuses k) (skipped (dependents_of g m) mid k) is)
still_waits g s (Stop w) k is = is

same_length : (g : Given) (s : State) (e : Entry) → length (after g s e).statuses ≡ length s.statuses
same_length g s (Claim w m) = length-set s.statuses m (Claimed w)
same_length g s (Publish w m) = length-set s.statuses m Published
same_length g s (Fail w m) = length-skips (dependents_of g m) (set s.statuses m Failed) ∙ length-set s.statuses m Failed
same_length g s (Stop w) = refl

-- an entry takes the calls for it out of those that are left
entry_takes : (g : Given) (s : State) (e : Entry) → length s.statuses ≡ length g.imports → Allowed g s e → free (after g s e).statuses g.imports + calls_for g.imports e ≤ free s.statuses g.imports
entry_takes g s (Claim w m) len may = let job = job_is_ready g s m may in claim_takes s.statuses g.imports m w job.0 len job.1.0
entry_takes g s (Publish w m) len may = omega (arith, fewer_wait s.statuses (after g s (Publish w m)).statuses g.imports (same_length g s (Publish w m)) (still_waits g s (Publish w m)))
entry_takes g s (Fail w m) len may = omega (arith, fewer_wait s.statuses (after g s (Fail w m)).statuses g.imports (same_length g s (Fail w m)) (still_waits g s (Fail w m)))
entry_takes g s (Stop w) len may = omega arith

entries_take : (g : Given) (es : List Entry) (s : State) → length s.statuses ≡ length g.imports → AllowedFrom g s es → calls_in g.imports es ≤ free s.statuses g.imports
entries_take g [] s len may = omega arith
entries_take g (e ∷ es) s len may = let rest = entries_take g es (after g s e) (same_length g s e ∙ len) may.1 in let one = entry_takes g s e len may.0 in let sum : calls_in g.imports (e ∷ es) ≡ calls_for g.imports e + calls_in g.imports es = sum_by-cons (calls_for g.imports) e es in omega (arith, rest, one, sum)

-- the entries of one worker are some of all
own_are_fewer : (plan : List (List ℕ)) (w : ℕ) (es : List Entry) → calls_in plan (by w es) ≤ calls_in plan es
own_are_fewer plan w [] = omega arith
own_are_fewer plan w (e ∷ es) = one (is_by w e) (own_are_fewer plan w es)
  where
    one : (mine : Bool) → calls_in plan (by w es) ≤ calls_in plan es → calls_in plan (cond mine (e ∷ by w es) (by w es)) ≤ calls_in plan (e ∷ es)
    one true le = let a : calls_in plan (e ∷ by w es) ≡ calls_for plan e + calls_in plan (by w es) = sum_by-cons (calls_for plan) e (by w es) in let b : calls_in plan (e ∷ es) ≡ calls_for plan e + calls_in plan es = sum_by-cons (calls_for plan) e es in omega (arith, le, a, b)
    one false le = let b : calls_in plan (e ∷ es) ≡ calls_for plan e + calls_in plan es = sum_by-cons (calls_for plan) e es in omega (arith, le, b)

-- in an allowed journal, one worker's claims take at most the calls for all modules
claims_fit : (g : Given) (es : List Entry) (w : ℕ) → IsAllowed g es → calls_in g.imports (by w es) ≤ 2 * length g.imports + sum_by length g.imports
claims_fit g es w may = let all = entries_take g es (opening g) (length-replicate (length g.imports) Waiting) may in let own = own_are_fewer g.imports w es in omega (arith, all, own, all_free g.imports)

-- one entry of the worker more
one_more : (plan : List (List ℕ)) (w : ℕ) (es : List Entry) (e : Entry) → is_by w e ≡ true → calls_in plan (by w (es ++ e ∷ [])) ≡ calls_in plan (by w es) + calls_for plan e
one_more plan w es e mine =
    let own : by w (es ++ e ∷ []) ≡ by w es ++ e ∷ [] = filter-append (is_by w) es (e ∷ []) ∙ ap (λ b. by w es ++ cond b (e ∷ []) []) mine in
    ap (calls_in plan) own ∙ omega (arith, sum_by-append (calls_for plan) (by w es) (e ∷ []))

pub claims_take : ClaimsTakeTheirCalls
claims_take subjects plan w old new (turn.Job m) h =
    let b = h.before in
    let took : calls_in plan (by w new) ≡ calls_in plan (by w b.journal) + calls_for plan (Claim w m) = ap (λ es. calls_in plan (by w es)) h.knows ∙ one_more plan w b.journal (Claim w m) (eq-eqb w w refl) in
    took ∙ ap (λ es. calls_in plan es + calls_for plan (Claim w m)) h.met.begins.own
claims_take subjects plan w old new turn.Done h = ap (λ es. calls_in plan (by w es)) h.knows ∙ (ap (calls_in plan) h.met.begins.own ∙ omega arith)

pub all_claims_fit : ClaimsFit
all_claims_fit subjects plan w old new (turn.Job m) h =
    let b = h.before in
    let fits = claims_fit b.given (b.journal ++ Claim w m ∷ []) w (allowed_more b.given (opening b.given) b.journal (Claim w m) h.met.legal.allowed h.reply) in
    rw h.knows (subst (λ plan. calls_in plan (by w (b.journal ++ Claim w m ∷ [])) ≤ 2 * length plan + sum_by length plan) h.met.same.imports fits)
all_claims_fit subjects plan w old new turn.Done h =
    let b = h.before in
    rw h.knows (subst (λ plan. calls_in plan (by w b.journal) ≤ 2 * length plan + sum_by length plan) h.met.same.imports (claims_fit b.given b.journal w h.met.legal.allowed))

pub answers_take_none : AnswersTakeNoCalls
answers_take_none subjects plan w m c e old new (Ok u) h its none =
    let took : calls_in plan (by w new) ≡ calls_in plan (by w h.before.journal) + calls_for plan e = ap (λ es. calls_in plan (by w es)) h.knows ∙ one_more plan w h.before.journal e (eq-eqb (writer_of e) w its) in
    took ∙ (ap (λ es. calls_in plan es + calls_for plan e) h.met.begins.own ∙ omega (arith, none))
answers_take_none subjects plan w m c e old new (Err r) h its none = ap (λ es. calls_in plan (by w es)) h.knows ∙ ap (calls_in plan) h.met.begins.own
