-- What is kept of the modules, when a status changes.
use Rattle.std.proofs.Common.{◌≡◌, ◌≢◌, ℕ, ◌<◌, ◌≤◌, ⊎_elim, Bool, true, false, cond, List, [], ◌∷◌, length, map, get_or, set, Option, Some, None, refl, ap, subst, ◌∙◌, sym, arith}
use Rattle.std.specs.Prelude.{sum_by}
use Rattle.std.proofs.lemmas.List.{get_or-set_same, get_or-set_other}
use Rattle.std.proofs.lemmas.List.Sums.{sum_by-set}
use Rattle.std.proofs.lemmas.Bool.{cases_eq}
use Rattle.hm_types.specs.Interfaces.{Exports as Interface}
use Rattle.hm_types.specs.StandardPrelude.{prelude_interface}
use Rattle.hm_verdicts.specs.ModuleVerdicts.{Verdict, Good, Faulty, IsVerdict}
use Rattle.hm_verdicts.specs.Outcomes.{Checked, IsGood}
use Rattle.hm_store.specs.Plans.{imports_of}
use Rattle.hm_store.specs.Objects.{status_at, is_waiting, skip, skip_all}
use Rattle.hm_store.specs.Builds.{Build, interface_at, IsOf, AgreesWith, Agrees, IsSound, status_by, with_kept}
use Rattle.hm_store.specs.StoresInside.{left_for, left_in}
use Rattle.hm_store.specs.declared.object.Status.{Status}
use Rattle.hm_store.specs.declared.object.Status.TheVariants.{Waiting, Published, Failed, Skipped}
use Rattle.hm_store.specs.declared.object.Entry.{Entry}
use Rattle.hm_store.proofs.Skipping.{waits, within}

pub good_status : (v : Verdict) → IsGood v → status_by v ≡ Published
good_status (Good f) g = refl
good_status (Faulty found) g = absurd g

pub faulty_status : (v : Verdict) → ¬ IsGood v → status_by v ≡ Failed
faulty_status (Good f) n = absurd (n tt)
faulty_status (Faulty found) n = refl

by_verdict : (c : Checked) (v : Verdict) → c.verdict ≡ v → AgreesWith (status_by v) (Some c)
by_verdict c (Good f) e = (c, refl, (f, e))
by_verdict c (Faulty found) e = (c, refl, (found, e))

-- an outcome agrees with the status that its verdict gives
pub agrees_by : (c : Checked) → AgreesWith (status_by c.verdict) (Some c)
agrees_by c = by_verdict c c.verdict refl

pub agrees_set : (ss : List Status) (kept : List (Option Checked)) (m : ℕ) (s : Status) → m < length ss → Agrees ss kept → AgreesWith s (get_or kept m None) → Agrees (set ss m s) kept
agrees_set ss kept m s lt h here k = ⊎_elim (λ (e : k ≡ m). rw (e, get_or-set_same ss m s Skipped lt) here) (λ (ne : k ≢ m). rw (get_or-set_other ss m k s Skipped ne) (h k)) (cases_eq k m)

pub agrees_kept : (ss : List Status) (kept : List (Option Checked)) (m : ℕ) (s : Status) (o : Option Checked) → m < length ss → m < length kept → Agrees ss kept → AgreesWith s o → Agrees (set ss m s) (set kept m o)
agrees_kept ss kept m s o lt lk h here k = ⊎_elim (λ (e : k ≡ m). rw (e, get_or-set_same ss m s Skipped lt, get_or-set_same kept m o None lk) here)
    (λ (ne : k ≢ m). rw (get_or-set_other ss m k s Skipped ne, get_or-set_other kept m k o None ne) (h k)) (cases_eq k m)

-- the interfaces that are published stay, when an outcome is kept of a module that had none
stays : (kept : List (Option Checked)) (m : ℕ) (c : Checked) → get_or kept m None ≡ None → (is : List Interface) (ks : List ℕ) → map (λ f. Some f) is ≡ map (interface_at kept) ks
    → map (λ f. Some f) is ≡ map (interface_at (set kept m (Some c))) ks
stays kept m c none [] [] h = refl
stays kept m c none [] (k ∷ ks) h = absurd (cc)
stays kept m c none (i ∷ is) [] h = absurd (cc)
stays kept m c none (i ∷ is) (k ∷ ks) h =
    let here : Some i ≡ interface_at kept k = cc in
    let rest : map (λ f. Some f) is ≡ map (interface_at kept) ks = cc in
    let ne : k ≢ m = λ (e : k ≡ m). let g : interface_at kept k ≡ None = rw (e, none) refl in absurd (cc) in
    let now : Some i ≡ interface_at (set kept m (Some c)) k = rw (get_or-set_other kept m k (Some c) None ne) here in
    rw (← now) (ap (λ zs. Some i ∷ zs) (stays kept m c none is ks rest))

-- an outcome that was that of its module is so still
still_of : (b : Build) (m : ℕ) (c : Checked) (e : Entry) → get_or b.kept m None ≡ None → (k : ℕ) (d : Checked) → IsOf b k d → IsOf (with_kept b m c e) k d
still_of b m c e none k d of = record { subject = of.subject; imports = stays b.kept m c none d.imports (imports_of b.given k) of.imports }

pub sound_kept : (b : Build) (m : ℕ) (c : Checked) (e : Entry) → m < length b.kept → get_or b.kept m None ≡ None → IsOf b m c → IsVerdict c.«module» (prelude_interface ∷ c.imports) c.verdict → IsSound b → IsSound (with_kept b m c e)
sound_kept b m c e lt none of right h k d at =
    ⊎_elim
    (λ (q : k ≡ m). let s : Some c ≡ Some d = sym (get_or-set_same b.kept m (Some c) None lt) ∙ rw q at at in
    let t : c ≡ d = cc in
    subst (λ (x : Checked). IsOf (with_kept b m c e) k x × IsVerdict x.«module» (prelude_interface ∷ x.imports) x.verdict) t (rw q (still_of b m c e none m c of), right))
    (λ (ne : k ≢ m). let o = h k d (rw (get_or-set_other b.kept m k (Some c) None ne) at at) in (still_of b m c e none k d o.0, o.1))
    (cases_eq k m)

-- one skip keeps what agrees, and no more entries may come after it
skip_to : (ss : List Status) (kept : List (Option Checked)) (k : ℕ) (v : Bool) → is_waiting (status_at ss k) ≡ v → Agrees ss kept → Agrees (cond v (set ss k Skipped) ss) kept × (sum_by left_for (cond v (set ss k Skipped) ss) ≤ sum_by left_for ss)
skip_to ss kept k false is h = (h, omega arith)
skip_to ss kept k true is h = let w = waits (status_at ss k) is in
    let lt : k < length ss = within ss k (λ e. let f : Waiting ≡ Skipped = sym w ∙ e in cc) in
    let sums = sum_by-set left_for ss k Skipped Skipped lt in
    (agrees_set ss kept k Skipped lt h (rw w at (h k)), omega arith)

pub skips : (ks : List ℕ) (ss : List Status) (kept : List (Option Checked)) → Agrees ss kept → Agrees (skip_all ss ks) kept × (left_in (skip_all ss ks) ≤ left_in ss)
skips [] ss kept h = (h, omega arith)
skips (k ∷ ks) ss kept h = let one = skip_to ss kept k (is_waiting (status_at ss k)) refl h in
    let rest = skips ks (skip ss k) kept one.0 in
    let a = rest.1 in let b = one.1 in
    (rest.0, omega arith)
