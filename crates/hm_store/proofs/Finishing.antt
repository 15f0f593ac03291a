-- Where nothing is left to do, each module is settled.
use Rattle.std.proofs.Common.{◌≡◌, ◌≢◌, ℕ, ◌<◌, ◌≤◌, ⊎_elim, true, false, [], length, refl, sym, subst, ◌∙◌, arith}
use Rattle.std.proofs.lemmas.Bool.{cases_lt, false≢true}
use Rattle.std.proofs.lemmas.List.{get_or_past, length-map}
use Rattle.hm_graph_components.specs.Closure.{one}
use Rattle.hm_graph_components.specs.Marks.{IsClosed}
use Rattle.hm_graph.specs.Outline.{outline}
use Rattle.hm_graph.specs.Steps.{IsOnce}
use Rattle.hm_graph_components.proofs.Graphs.{Reaches-within}
use Rattle.hm_typing.specs.Names.{IsOneOf}
use Rattle.hm_verdicts.specs.Sets.{imports_of}
use Rattle.hm_verdicts.proofs.ImportOrder.{by_imports}
use Rattle.hm_verdicts.proofs.Lists.{one_of_contained}
use Rattle.hm_store.specs.Plans.{imports_of as build_imports}
use Rattle.hm_store.specs.Objects.{status_at, is_claimed, is_settled, reply_of}
use Rattle.hm_store.specs.Builds.{Build, IsLegal, IsAllSettled, set_of, state_of}
use Rattle.hm_store.specs.declared.object.Status.{Status}
use Rattle.hm_store.specs.declared.object.Status.TheVariants.{Waiting, Claimed, Published, Failed, Skipped}
use Rattle.hm_store.specs.declared.object.Claimed.TheVariants.{Done}
use Rattle.hm_store.proofs.ReadyModules.{done_is_idle}
use Rattle.hm_store.proofs.Following.{IsFollowing, is_lost, journal_follows}

-- as many lists of imports as modules
pub plan_length : (b : Build) → IsLegal b → length b.given.imports ≡ length b.modules
plan_length b h = h.lawful.planned.len ∙ length-map b.modules (λ m. outline m.header)

-- the plan leads to modules of the build
pub closed_imports : (b : Build) → IsLegal b → IsClosed b.given.imports
closed_imports b h x y edge =
    let from = subst (λ n. x < n) h.lawful.planned.len (Reaches-within b.given.imports x y (one edge)) in
    let to = ((h.lawful.planned.each x from).members y).0 edge in
    subst (λ n. y < n) (sym h.lawful.planned.len) to.0

pub build_follows : (b : Build) → IsLegal b → IsFollowing b.given (state_of b).statuses
build_follows b h = journal_follows b.given h.dependents b.journal (closed_imports b h) h.allowed

pub statuses_length : (b : Build) → IsLegal b → length (state_of b).statuses ≡ length b.modules
statuses_length b h = (build_follows b h).len ∙ plan_length b h

settled_and_kept : (s : Status) → is_settled s ≡ true → ¬ (is_lost s ≡ true) → s ≡ Published
settled_and_kept Waiting e n = absurd (false≢true e)
settled_and_kept (Claimed w) e n = absurd (false≢true e)
settled_and_kept Published e n = refl
settled_and_kept Failed e n = absurd (n refl)
settled_and_kept Skipped e n = absurd (n refl)

settled_by : (s : Status) → is_claimed s ≡ false → s ≢ Waiting → is_settled s ≡ true
settled_by Waiting e n = absurd (n refl)
settled_by (Claimed w) e n = absurd (false≢true (sym e))
settled_by Published e n = refl
settled_by Failed e n = refl
settled_by Skipped e n = refl

-- by induction along the imports: a module whose imports are all settled is no longer waiting
pub done_is_settled : (b : Build) → IsLegal b → reply_of b.given (state_of b) ≡ Done → (state_of b).stopped ≡ false → IsAllSettled b
done_is_settled b h done going = by_imports (set_of b) h.lawful (λ m. is_settled (status_at (state_of b).statuses m) ≡ true) step
  where
    step : (i : ℕ) → i < length b.modules → ((j : ℕ) → IsOneOf j (imports_of (set_of b) i) → is_settled (status_at (state_of b).statuses j) ≡ true) → is_settled (status_at (state_of b).statuses i) ≡ true
    step i lt imports =
        let idle = done_is_idle b.given (state_of b) done going i (subst (λ n. i < n) (sym (statuses_length b h)) lt) in
        settled_by (status_at (state_of b).statuses i) idle.0
        (λ w. idle.1 w (λ k edge. settled_and_kept (status_at (state_of b).statuses k) (imports k (one_of_contained (imports_of (set_of b) i) k edge)) (λ lost. (build_follows b h).waiting i k edge lost w)))

-- a module imports no other twice
pub imports_once : (b : Build) → IsLegal b → (k : ℕ) → IsOnce (build_imports b.given k)
imports_once b h k = ⊎_elim
    (λ (l : k < length b.modules). (h.lawful.planned.each k (subst (λ n. k < n) (sym (length-map b.modules (λ m. outline m.header))) l)).once)
    (λ (past : length b.modules ≤ k). rw (get_or_past b.given.imports k [] (let e = plan_length b h in omega (arith, e, past))) (λ p q less lt. absurd (omega (arith, lt))))
    (cases_lt k (length b.modules))
