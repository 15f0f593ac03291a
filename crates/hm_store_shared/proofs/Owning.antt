-- What a worker's own entries say of the modules that it has claimed.
use Rattle.std.proofs.Common.{◌≡◌, ◌≢◌, ℕ, ◌==◌, ◌⊎◌, inl, inr, ⊎_elim, Bool, true, false, cond, eq-eqb, ne_eqb, List, [], ◌∷◌, ◌++◌, set, fold, Ok, Err, refl, ap, sym, subst, ◌∙◌}
use Rattle.std.proofs.lemmas.Bool.{cases_eq}
use Rattle.std.proofs.lemmas.List.{get_or-set_same, get_or-set_other}
use Rattle.std.proofs.lemmas.List.Sums.{fold-append}
use Rattle.std.proofs.lemmas.List.Elements.{filter-append}
use Rattle.hm_syntax.specs.declared.ast.Module.{Module}
use Rattle.hm_store.specs.Plans.{Given, dependents_of}
use Rattle.hm_store.specs.Objects.{State, after, Allowed, AllowedFrom, opening, state_from, status_at}
use Rattle.hm_store.specs.Builds.{Build, IsLegal, state_of}
use Rattle.hm_store.specs.declared.object.Status.{Status}
use Rattle.hm_store.specs.declared.object.Status.TheVariants.{Waiting, Claimed, Published, Failed, Skipped}
use Rattle.hm_store.specs.declared.object.Entry.{Entry}
use Rattle.hm_store.specs.declared.object.Entry.TheVariants.{Claim, Publish, Fail, Stop}
use Rattle.hm_store.specs.declared.object.Refusal.TheVariants.{NotYours, Stranger, Memory}
use Rattle.hm_store.specs.declared.object.Turn.TheVariants as turn
use Rattle.hm_store.proofs.Finishing.{done_is_settled}
use Rattle.hm_store.proofs.ReadyModules.{job_is_ready}
use Rattle.hm_store.proofs.Skipping.{IsSkipOf, skipped}
use Rattle.hm_store_journal.specs.Entries.{by, is_by, writer_of}
use Rattle.hm_store_shared.specs.Knowing.{Claims, HasClaimed, IsEnded, IsStopped, has_after}
use Rattle.hm_store_shared.specs.Laws.{ClaimsAreHeld, DoneIsTheEnd, HeldAreTheirs}

claimer : Status → ℕ
claimer Waiting = 0
claimer (Claimed w) = w
claimer Published = 0
claimer Failed = 0
claimer Skipped = 0

same_claimer : (v w : ℕ) → Claimed v ≡ Claimed w → v ≡ w
unfolding claimer
same_claimer v w e = ap claimer e

-- the entry is of another module, or a stop
abbrev Apart : ℕ → Entry → Type 0
Apart m (Claim v k) = m ≢ k
Apart m (Publish v k) = m ≢ k
Apart m (Fail v k) = m ≢ k
Apart m (Stop v) = Unit {0}

unskipped : (ks : List ℕ) (m w : ℕ) (old new : Status) → IsSkipOf ks m old new → old ≡ Claimed w → new ≡ Claimed w
unskipped ks m w old new (inl a) is = let f : Waiting ≡ Claimed w = sym a.1.0 ∙ is in absurd (cc f)
unskipped ks m w old new (inr a) is = a.0 ∙ is

-- such an entry leaves a claimed module claimed
still : (g : Given) (s : State) (w m : ℕ) (e : Entry) → Apart m e → status_at s.statuses m ≡ Claimed w → status_at (after g s e).statuses m ≡ Claimed w
still g s w m (Claim v k) ne is = get_or-set_other s.statuses k m (Claimed v) Skipped ne ∙ is
still g s w m (Publish v k) ne is = get_or-set_other s.statuses k m Published Skipped ne ∙ is
still g s w m (Fail v k) ne is =
    let mid : List Status = set s.statuses k Failed in
    unskipped (dependents_of g k) m w (status_at mid m) (status_at (after g s (Fail v k)).statuses m) (skipped (dependents_of g k) mid m) (get_or-set_other s.statuses k m Failed Skipped ne ∙ is)
still g s w m (Stop v) ne is = is

-- an entry of another worker is apart from a module that worker w has claimed
of_another : (g : Given) (s : State) (w m : ℕ) (e : Entry) → writer_of e ≢ w → Allowed g s e → status_at s.statuses m ≡ Claimed w → Apart m e
of_another g s w m (Claim v k) ne may is = λ eq.
    let job = job_is_ready g s k may in
    let f : Waiting ≡ Claimed w = sym job.1.0 ∙ (ap (status_at s.statuses) (sym eq) ∙ is) in absurd (cc f)
of_another g s w m (Publish v k) ne may is = λ eq. ne (same_claimer v w (sym may ∙ (ap (status_at s.statuses) (sym eq) ∙ is)))
of_another g s w m (Fail v k) ne may is = λ eq. ne (same_claimer v w (sym may ∙ (ap (status_at s.statuses) (sym eq) ∙ is)))
of_another g s w m (Stop v) ne may is = tt

abbrev Keeps : State → ℕ → ℕ → Bool → Type 0
Keeps s w m has = has ≡ true → status_at s.statuses m ≡ Claimed w

-- an entry of worker w itself
of_its : (g : Given) (s : State) (w m : ℕ) (e : Entry) (has : Bool) → writer_of e ≡ w → Allowed g s e → Keeps s w m has → Keeps (after g s e) w m (has_after m has e)
of_its g s w m (Claim v k) has its may keeps h =
    ⊎_elim
    (λ (eq : k ≡ m). let job = job_is_ready g s k may in
    ap (status_at (set s.statuses k (Claimed v))) (sym eq) ∙ (get_or-set_same s.statuses k (Claimed v) Skipped job.0 ∙ ap Claimed its))
    (λ (ne : k ≢ m). still g s w m (Claim v k) (λ e. ne (sym e)) (keeps (sym (ap (λ b. cond b true has) (ne_eqb k m ne)) ∙ h)))
    (cases_eq k m)
of_its g s w m (Publish v k) has its may keeps h =
    ⊎_elim
    (λ (eq : k ≡ m). let f : false ≡ true = sym (ap (λ b. cond b false has) (eq-eqb k m eq)) ∙ h in absurd (cc f))
    (λ (ne : k ≢ m). still g s w m (Publish v k) (λ e. ne (sym e)) (keeps (sym (ap (λ b. cond b false has) (ne_eqb k m ne)) ∙ h)))
    (cases_eq k m)
of_its g s w m (Fail v k) has its may keeps h =
    ⊎_elim
    (λ (eq : k ≡ m). let f : false ≡ true = sym (ap (λ b. cond b false has) (eq-eqb k m eq)) ∙ h in absurd (cc f))
    (λ (ne : k ≢ m). still g s w m (Fail v k) (λ e. ne (sym e)) (keeps (sym (ap (λ b. cond b false has) (ne_eqb k m ne)) ∙ h)))
    (cases_eq k m)
of_its g s w m (Stop v) has its may keeps h = keeps h

-- the next entry, where the rest is known
one_more : (g : Given) (s : State) (w m : ℕ) (e : Entry) (rest : List Entry) (has : Bool) (P : Type 0) → Allowed g s e → Keeps s w m has
    → ((now : Bool) → Keeps (after g s e) w m now → fold (has_after m) now rest ≡ true → P)
    → (mine : Bool) → is_by w e ≡ mine → fold (has_after m) has (cond mine (e ∷ rest) rest) ≡ true → P
one_more g s w m e rest has P may keeps goes true is h = goes (has_after m has e) (of_its g s w m e has (eqb_is (writer_of e) w is) may keeps) h
  where
    eqb_is : (a b : ℕ) → (a == b) ≡ true → a ≡ b
    eqb_is a b same = ⊎_elim (λ (eq : a ≡ b). eq) (λ (ne : a ≢ b). let f : false ≡ true = sym (ne_eqb a b ne) ∙ same in absurd (cc f)) (cases_eq a b)
one_more g s w m e rest has P may keeps goes false is h =
    goes has (λ t. still g s w m e (of_another g s w m e (λ eq. let f : true ≡ false = sym (eq-eqb (writer_of e) w eq) ∙ is in absurd (cc f)) may (keeps t)) (keeps t)) h

claimed_from : (g : Given) (w m : ℕ) (es : List Entry) (s : State) (has : Bool) → Keeps s w m has → AllowedFrom g s es → fold (has_after m) has (by w es) ≡ true → status_at (state_from g s es).statuses m ≡ Claimed w
claimed_from g w m [] s has keeps may h = keeps h
claimed_from g w m (e ∷ es) s has keeps may h =
    one_more g s w m e (by w es) has (status_at (state_from g s (e ∷ es)).statuses m ≡ Claimed w) may.0 keeps (λ now k r. claimed_from g w m es (after g s e) now k may.1 r) (is_by w e) refl h

-- in a legal build, worker w has claimed what its own entries say
pub claimed_by_own : (b : Build) (w m : ℕ) → IsLegal b → HasClaimed w b.journal m → status_at (state_of b).statuses m ≡ Claimed w
claimed_by_own b w m legal has = claimed_from b.given w m b.journal (opening b.given) false (λ e. absurd (cc e)) legal.allowed has

-- after its claim, a worker has claimed the module
pub has_now : (w m : ℕ) (es : List Entry) → HasClaimed w (es ++ Claim w m ∷ []) m
has_now w m es =
    let own : by w (es ++ Claim w m ∷ []) ≡ by w es ++ Claim w m ∷ [] = filter-append (is_by w) es (Claim w m ∷ []) ∙ ap (λ b. by w es ++ cond b (Claim w m ∷ []) []) (eq-eqb w w refl) in
    ap (fold (has_after m) false) own ∙ (fold-append (has_after m) false (by w es) (Claim w m ∷ []) ∙ ap (λ b. cond b true (fold (has_after m) false (by w es))) (eq-eqb m m refl))

pub claims_are_held : ClaimsAreHeld
claims_are_held subjects plan w old new (turn.Job m) h = subst (λ es. HasClaimed w es m) (sym h.knows) (has_now w m h.before.journal)
claims_are_held subjects plan w old new turn.Done h = tt

pub held_are_theirs : HeldAreTheirs
held_are_theirs subjects plan w m c e old new (Ok u) h has = tt
held_are_theirs subjects plan w m c e old new (Err (NotYours, d)) h has =
    λ same. h.reason (claimed_by_own h.before w m h.met.legal (ap (fold (has_after m) false) h.met.begins.own ∙ has))
held_are_theirs subjects plan w m c e old new (Err (Stranger, d)) h has = λ same. absurd (cc same)
held_are_theirs subjects plan w m c e old new (Err (Memory, d)) h has = λ same. absurd (cc same)

ended_or_stopped : (subjects : List Module) (plan : List (List ℕ)) (w : ℕ) (old new : List Entry) (h : Claims subjects plan w old new turn.Done) (stopped : Bool) → (state_of h.before).stopped ≡ stopped
    → IsStopped subjects plan new ⊎ IsEnded subjects plan new
ended_or_stopped subjects plan w old new h true is = inl (record { build = h.before; same = h.met.same; legal = h.met.legal; knows = h.knows; stopped = is })
ended_or_stopped subjects plan w old new h false is =
    inr (record { build = h.before; same = h.met.same; legal = h.met.legal; knows = h.knows; settled = done_is_settled h.before h.met.legal h.reply is })

pub done_is_the_end : DoneIsTheEnd
done_is_the_end subjects plan w old new h = ended_or_stopped subjects plan w old new h (state_of h.before).stopped refl
