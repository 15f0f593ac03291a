-- Each step of a store keeps what holds of its fields.
use Rattle.std.proofs.Common.{◌≡◌, ℕ, ◌+◌, ◌<◌, Bool, true, false, List, [], ◌∷◌, length, get_or, set, Some, None, refl, ap, subst, ◌∙◌, sym, arith, length-append}
use Rattle.std.specs.Prelude.{sum_by}
use Rattle.std.proofs.lemmas.List.{length-set}
use Rattle.std.proofs.lemmas.List.Sums.{sum_by-set}
use Rattle.hm_graph_components.specs.Digraph.{Reaches}
use Rattle.hm_types.specs.StandardPrelude.{prelude_interface}
use Rattle.hm_verdicts.specs.ModuleVerdicts.{IsVerdict}
use Rattle.hm_verdicts.specs.Outcomes.{Checked, IsGood}
use Rattle.hm_store.specs.Plans.{dependents_of}
use Rattle.hm_store.specs.Objects.{State, status_at, reply_of, Allowed, opening, skip_all}
use Rattle.hm_store.specs.Builds.{Build, IsLegal, IsOf, IsSound, Agrees, Refuses, state_of, status_by, with_entry, with_kept}
use Rattle.hm_store.specs.StoresInside.{Holds, left_for}
use Rattle.hm_store.specs.declared.object.Status.{Status}
use Rattle.hm_store.specs.declared.object.Status.TheVariants.{Claimed, Published, Failed, Skipped}
use Rattle.hm_store.specs.declared.object.Entry.{Entry}
use Rattle.hm_store.specs.declared.object.Entry.TheVariants.{Claim, Publish, Fail, Stop}
use Rattle.hm_store.specs.declared.object.Claimed.{Claimed as Reply}
use Rattle.hm_store.specs.declared.object.Claimed.TheVariants.{Job}
use Rattle.hm_store.proofs.Finishing.{build_follows, statuses_length, plan_length}
use Rattle.hm_store.proofs.Following.{IsFollowing, reaching_skipped}
use Rattle.hm_store.proofs.Journals.{allowed_more, state_more}
use Rattle.hm_store.proofs.Kept.{agrees_by, agrees_kept, agrees_set, faulty_status, good_status, skips, sound_kept}
use Rattle.hm_store.proofs.ReadyModules.{job_is_ready}
use Rattle.hm_store.proofs.Skipping.{within}

abbrev pub state_with : List Status → Bool → State
state_with ss stopped = record { statuses = ss; stopped = stopped }

-- a store has a status for each module
pub holds_length : (b : Build) (ss : List Status) (stopped : Bool) (room : ℕ) → Holds b ss stopped room → length ss ≡ length b.modules
holds_length b ss stopped room h = sym (ap (λ (s : State). length s.statuses) h.state) ∙ statuses_length b h.legal

pub holds_plan : (b : Build) (ss : List Status) (stopped : Bool) (room : ℕ) → Holds b ss stopped room → length ss ≡ length b.given.imports
holds_plan b ss stopped room h = holds_length b ss stopped room h ∙ sym (plan_length b h.legal)

pub holds_follows : (b : Build) (ss : List Status) (stopped : Bool) (room : ℕ) → Holds b ss stopped room → IsFollowing b.given ss
holds_follows b ss stopped room h = subst (λ (s : State). IsFollowing b.given s.statuses) h.state (build_follows b h.legal)

holds_agrees : (b : Build) (ss : List Status) (stopped : Bool) (room : ℕ) → Holds b ss stopped room → Agrees ss b.kept
holds_agrees b ss stopped room h = subst (λ (s : State). Agrees s.statuses b.kept) h.state h.legal.agrees

-- the allowed entry follows the journal
allowed_entry : (b : Build) (ss : List Status) (stopped : Bool) (room : ℕ) (e : Entry) → Holds b ss stopped room → Allowed b.given (state_with ss stopped) e → Allowed b.given (state_of b) e
allowed_entry b ss stopped room e h a = subst (λ (s : State). Allowed b.given s e) (sym h.state) a

sound_still : (b : Build) (e : Entry) → IsSound b → IsSound (with_entry b e)
sound_still b e h m c at = let o = h m c at in (record { subject = o.0.subject; imports = o.0.imports }, o.1)

pub claim_step : (b : Build) (ss : List Status) (stopped : Bool) (room w m : ℕ) → Holds b ss stopped room → reply_of b.given (state_with ss stopped) ≡ Job m
    → Holds (with_entry b (Claim w m)) (set ss m (Claimed w)) stopped room
claim_step b ss stopped room w m h reply =
    let job = job_is_ready b.given (state_with ss stopped) m reply in
    let sums = sum_by-set left_for ss m (Claimed w) Skipped job.0 in
    let state : state_of (with_entry b (Claim w m)) ≡ state_with (set ss m (Claimed w)) stopped = state_more b.given b.journal (Claim w m) ∙ rw h.state refl in
    let agrees = holds_agrees b ss stopped room h in
    record {
      legal = record {
        lawful = h.legal.lawful;
        dependents = h.legal.dependents;
        allowed = allowed_more b.given (opening b.given) b.journal (Claim w m) h.legal.allowed (allowed_entry b ss stopped room (Claim w m) h reply);
        count = h.legal.count;
        agrees = subst (λ (s : State). Agrees s.statuses b.kept) (sym state) (agrees_set ss b.kept m (Claimed w) job.0 agrees (rw job.1.0 at (agrees m)));
        sound = sound_still b (Claim w m) h.legal.sound;
      };
      state = state;
      space = let s : sum_by left_for (set ss m (Claimed w)) + 2 ≡ sum_by left_for ss + 1 = rw job.1.0 at sums in let f = h.space in omega (arith, length-append b.journal (Claim w m ∷ []));
      few = h.few;
    }

pub stop_step : (b : Build) (ss : List Status) (room w : ℕ) → Holds b ss false room → Holds (with_entry b (Stop w)) ss true room
stop_step b ss room w h =
    let state : state_of (with_entry b (Stop w)) ≡ state_with ss true = state_more b.given b.journal (Stop w) ∙ rw h.state refl in
    record {
      legal = record {
        lawful = h.legal.lawful;
        dependents = h.legal.dependents;
        allowed = allowed_more b.given (opening b.given) b.journal (Stop w) h.legal.allowed (allowed_entry b ss false room (Stop w) h refl);
        count = h.legal.count;
        agrees = subst (λ (s : State). Agrees s.statuses b.kept) (sym state) (holds_agrees b ss false room h);
        sound = sound_still b (Stop w) h.legal.sound;
      };
      state = state;
      space = let f = h.space in omega (arith, length-append b.journal (Stop w ∷ []));
      few = h.few;
    }

-- what an outcome must be to be kept of module m
pub record IsToKeep (b : Build) (ss : List Status) (w m : ℕ) (c : Checked) : Type 0 where
  pub claimed : status_at ss m ≡ Claimed w
  pub of : IsOf b m c
  pub right : IsVerdict c.«module» (prelude_interface ∷ c.imports) c.verdict

-- what isn't refused
pub to_keep : (b : Build) (ss : List Status) (stopped : Bool) (room w m : ℕ) (c : Checked) → Holds b ss stopped room → Refuses b w m c None → IsVerdict c.«module» (prelude_interface ∷ c.imports) c.verdict → IsToKeep b ss w m c
to_keep b ss stopped room w m c h accepted right = record { claimed = subst (λ (s : State). status_at s.statuses m ≡ Claimed w) h.state accepted.0; of = accepted.1; right = right }

pub claimed_within : (b : Build) (ss : List Status) (w m : ℕ) (c : Checked) → IsToKeep b ss w m c → m < length ss
claimed_within b ss w m c k = within ss m (λ e. let f : Claimed w ≡ Skipped = sym k.claimed ∙ e in cc)

-- none was kept of it so far
none_kept : (b : Build) (ss : List Status) (stopped : Bool) (room w m : ℕ) (c : Checked) → Holds b ss stopped room → IsToKeep b ss w m c → get_or b.kept m None ≡ None
none_kept b ss stopped room w m c h k = rw k.claimed at (holds_agrees b ss stopped room h m)

pub kept_within : (b : Build) (ss : List Status) (stopped : Bool) (room w m : ℕ) (c : Checked) → Holds b ss stopped room → IsToKeep b ss w m c → m < length b.kept
kept_within b ss stopped room w m c h k = omega (arith, h.legal.count, holds_length b ss stopped room h, claimed_within b ss w m c k)

-- the outcome with the status that its verdict gives
agrees_now : (b : Build) (ss : List Status) (stopped : Bool) (room w m : ℕ) (c : Checked) → Holds b ss stopped room → IsToKeep b ss w m c → Agrees (set ss m (status_by c.verdict)) (set b.kept m (Some c))
agrees_now b ss stopped room w m c h k =
    agrees_kept ss b.kept m (status_by c.verdict) (Some c) (claimed_within b ss w m c k) (kept_within b ss stopped room w m c h k) (holds_agrees b ss stopped room h) (agrees_by c)

sound_now : (b : Build) (ss : List Status) (stopped : Bool) (room w m : ℕ) (c : Checked) (e : Entry) → Holds b ss stopped room → IsToKeep b ss w m c → IsSound (with_kept b m c e)
sound_now b ss stopped room w m c e h k = sound_kept b m c e (kept_within b ss stopped room w m c h k) (none_kept b ss stopped room w m c h k) k.of k.right h.legal.sound

pub publish_step : (b : Build) (ss : List Status) (stopped : Bool) (room w m : ℕ) (c : Checked) → Holds b ss stopped room → IsToKeep b ss w m c → IsGood c.verdict
    → Holds (with_kept b m c (Publish w m)) (set ss m Published) stopped room
publish_step b ss stopped room w m c h k good =
    let sums = sum_by-set left_for ss m Published Skipped (claimed_within b ss w m c k) in
    let state : state_of (with_kept b m c (Publish w m)) ≡ state_with (set ss m Published) stopped = state_more b.given b.journal (Publish w m) ∙ rw h.state refl in
    record {
      legal = record {
        lawful = h.legal.lawful;
        dependents = h.legal.dependents;
        allowed = allowed_more b.given (opening b.given) b.journal (Publish w m) h.legal.allowed (allowed_entry b ss stopped room (Publish w m) h k.claimed);
        count = length-set b.kept m (Some c) ∙ h.legal.count;
        agrees = subst (λ (s : State). Agrees s.statuses (set b.kept m (Some c))) (sym state) (rw (good_status c.verdict good) at (agrees_now b ss stopped room w m c h k));
        sound = sound_now b ss stopped room w m c (Publish w m) h k;
      };
      state = state;
      space = let s : sum_by left_for (set ss m Published) + 1 ≡ sum_by left_for ss + 0 = rw k.claimed at sums in let f = h.space in omega (arith, length-append b.journal (Publish w m ∷ []));
      few = h.few;
    }

pub fail_step : (b : Build) (ss : List Status) (stopped : Bool) (room w m : ℕ) (c : Checked) → Holds b ss stopped room → IsToKeep b ss w m c → ¬ IsGood c.verdict
    → Holds (with_kept b m c (Fail w m)) (skip_all (set ss m Failed) (dependents_of b.given m)) stopped room
fail_step b ss stopped room w m c h k faulty =
    let sums = sum_by-set left_for ss m Failed Skipped (claimed_within b ss w m c k) in
    let state : state_of (with_kept b m c (Fail w m)) ≡ state_with (skip_all (set ss m Failed) (dependents_of b.given m)) stopped = state_more b.given b.journal (Fail w m) ∙ rw h.state refl in
    let now : Agrees (set ss m Failed) (set b.kept m (Some c)) = rw (faulty_status c.verdict faulty) at (agrees_now b ss stopped room w m c h k) in
    let skipped = skips (dependents_of b.given m) (set ss m Failed) (set b.kept m (Some c)) now in
    record {
      legal = record {
        lawful = h.legal.lawful;
        dependents = h.legal.dependents;
        allowed = allowed_more b.given (opening b.given) b.journal (Fail w m) h.legal.allowed (allowed_entry b ss stopped room (Fail w m) h k.claimed);
        count = length-set b.kept m (Some c) ∙ h.legal.count;
        agrees = subst (λ (s : State). Agrees s.statuses (set b.kept m (Some c))) (sym state) skipped.0;
        sound = sound_now b ss stopped room w m c (Fail w m) h k;
      };
      state = state;
      space = let s : sum_by left_for (set ss m Failed) + 1 ≡ sum_by left_for ss + 0 = rw k.claimed at sums in let f = h.space in let g = skipped.1 in omega (arith, length-append b.journal (Fail w m ∷ []));
      few = h.few;
    }

-- what reaches a module that fails is skipped
pub skipped_by_failure : (b : Build) (w m : ℕ) (c : Checked) → IsLegal b → Refuses b w m c None → (k : ℕ) → Reaches b.given.imports k m → status_at (state_of (with_kept b m c (Fail w m))).statuses k ≡ Skipped
skipped_by_failure b w m c h accepted k path =
    ap (λ (s : State). status_at s.statuses k) (state_more b.given b.journal (Fail w m)) ∙ reaching_skipped b.given (state_of b).statuses m w (build_follows b h) accepted.0 h.dependents k path

-- the reply to a claim that isn't made after a stop, of the build that is seen
pub reply_now : (b seen : Build) (ss : List Status) (stopped : Bool) (room : ℕ) (reply : Reply) → Holds b ss stopped room → b ≡ seen → stopped ≡ false → reply_of b.given (state_with ss false) ≡ reply → reply ≡ reply_of seen.given (state_of seen)
reply_now b seen ss stopped room reply h same going e =
    let inside : reply ≡ reply_of b.given (state_of b) = sym e ∙ ap (λ (s : State). reply_of b.given s) (ap (state_with ss) (sym going) ∙ sym h.state) in
    subst (λ (x : Build). reply ≡ reply_of x.given (state_of x)) same inside
