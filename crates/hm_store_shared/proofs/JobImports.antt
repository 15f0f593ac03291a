-- What a worker that got a job has seen: an interface of each import.
use Rattle.std.proofs.Common.{◌≡◌, ℕ, ◌<◌, List, length, Bool, true, false, Some, Result, Ok, Err, ap, sym, ◌∙◌, subst}
use mathlib.Core.List.{IsPrefix}
use Rattle.hm_graph_components.specs.Digraph.{Edge}
use Rattle.hm_verdicts.specs.Outcomes.{Checked}
use Rattle.hm_store_published.specs.declared.publication.Publication.{Publication}
use Rattle.hm_store_published.specs.Publications.{IsPublishedIn, interface_in}
use Rattle.hm_store.specs.Objects.{reply_of}
use Rattle.hm_store.specs.Builds.{AgreesWith, Build, IsLegal, Settles, after_claim, after_stop, interface_at, interface_of, kept_at, state_of}
use Rattle.hm_store.specs.Builds as builds
use Rattle.hm_store_shared.specs.Listings.{HasImports, IsBuildOf, IsListed, IsWithin}
use Rattle.hm_store.specs.declared.object.Status.TheVariants.{Published}
use Rattle.hm_store.specs.declared.object.Claimed.TheVariants.{Job}
use Rattle.hm_store.proofs.ReadyModules.{job_is_ready}
use Rattle.hm_store.specs.declared.object.Turn.{Turn}
use Rattle.hm_store.specs.declared.object.Turn.TheVariants as turn
use Rattle.hm_store.specs.declared.object.Entry.{Entry}
use Rattle.hm_store.specs.declared.object.Refusal.{Refusal}
use Rattle.hm_store.specs.declared.object.Claimed.{Claimed as Reply}
use Rattle.hm_store.specs.declared.object.Claimed.TheVariants.{Later, Done}
use Rattle.hm_store.specs.Records.{replied}
use Rattle.hm_syntax.specs.declared.ast.Module.{Module}
use Rattle.hm_store.proofs.Finishing.{build_follows, statuses_length}
use Rattle.hm_store_shared.proofs.Listing.{found_in_more}

pub job_imports : (b : Build) (ps : List Publication) (m k : ℕ) → IsLegal b → IsListed b ps → reply_of b.given (state_of b) ≡ Job m → Edge b.given.imports m k → IsPublishedIn ps k
job_imports b ps m k legal listed job edge =
    let ready = (job_is_ready b.given (state_of b) m job).1.1 k edge in
    let kept : AgreesWith Published (kept_at b.kept k) = subst (λ s. AgreesWith s (kept_at b.kept k)) ready (legal.agrees k) in
    let f = kept.2.0 in
    (f, listed.same k ∙ (ap builds.interface_in kept.1 ∙ ap interface_of kept.2.1))

-- what a claim got has its imports in the list
pub turn_imports : (plan : List (List ℕ)) (b : Build) (ps : List Publication) (t : Turn) → IsLegal b → IsListed b ps → b.given.imports ≡ plan → replied (Some t) ≡ reply_of b.given (state_of b) → HasImports plan t ps
turn_imports plan b ps (turn.Job m) legal listed same is = λ k edge. job_imports b ps m k legal listed (sym is) (subst (λ g. Edge g m k) (sym same) edge)
turn_imports plan b ps turn.Done legal listed same is = tt

-- and is one of the modules, with a row of the plan
pub turn_within : (ms : List Module) (plan : List (List ℕ)) (b : Build) (t : Turn) → IsLegal b → IsBuildOf ms plan b → replied (Some t) ≡ reply_of b.given (state_of b) → IsWithin (length ms) t × IsWithin (length plan) t
turn_within ms plan b (turn.Job m) legal of is =
    let lt : m < length (state_of b).statuses = (job_is_ready b.given (state_of b) m (sym is)).0 in (
      subst (λ n. m < n) (statuses_length b legal ∙ ap length of.modules) lt,
      subst (λ n. m < n) ((build_follows b legal).len ∙ ap length of.imports) lt,
    )
turn_within ms plan b turn.Done legal of is = (tt, tt)

-- and in each list that begins with it
pub still_imports : (plan : List (List ℕ)) (t : Turn) (ps qs : List Publication) → IsPrefix ps qs → HasImports plan t ps → HasImports plan t qs
still_imports plan (turn.Job m) ps qs more h = λ k edge. let found = h k edge in (found.0, subst (λ xs. interface_in xs k ≡ Some found.0) more.1 (found_in_more ps more.0 k found.0 found.1))
still_imports plan turn.Done ps qs more h = tt

-- no step changes the modules or the plan
pub same_claimed : {ms : List Module} {plan : List (List ℕ)} (b after : Build) (w : ℕ) (r : Reply) → after ≡ after_claim b w r → IsBuildOf ms plan b → IsBuildOf ms plan after
same_claimed {ms = ms} {plan = plan} b after w (Job m) is h = subst (IsBuildOf ms plan) (sym is) (record { modules = h.modules; imports = h.imports })
same_claimed {ms = ms} {plan = plan} b after w Later is h = subst (IsBuildOf ms plan) (sym is) h
same_claimed {ms = ms} {plan = plan} b after w Done is h = subst (IsBuildOf ms plan) (sym is) h

pub same_stopped : {ms : List Module} {plan : List (List ℕ)} (b after : Build) (w : ℕ) (first : Bool) → after ≡ after_stop b w first → IsBuildOf ms plan b → IsBuildOf ms plan after
same_stopped {ms = ms} {plan = plan} b after w true is h = subst (IsBuildOf ms plan) (sym is) (record { modules = h.modules; imports = h.imports })
same_stopped {ms = ms} {plan = plan} b after w false is h = subst (IsBuildOf ms plan) (sym is) h

pub same_settled : {ms : List Module} {plan : List (List ℕ)} (b after : Build) (w m : ℕ) (c : Checked) (e : Entry) (r : Result (Unit {0}) (Refusal × Checked)) → Settles b w m c e after r → IsBuildOf ms plan b → IsBuildOf ms plan after
same_settled {ms = ms} {plan = plan} b after w m c e (Ok u) is h = subst (IsBuildOf ms plan) (sym is.1) (record { modules = h.modules; imports = h.imports })
same_settled {ms = ms} {plan = plan} b after w m c e (Err r) is h = subst (IsBuildOf ms plan) (sym is.1) h
