use Rattle.std.proofs.Common.{◌≡◌, ◌==◌, ◌+◌, ◌*◌, ◌<◌, ◌≤◌, ◌^◌, ℕ, None, List, length, map, replicate, slice_index_or, rules, subst, ap, sym, ◌∙◌, arith}
use Rattle.std.specs.Arc.{arc_value}
use Rattle.std.specs.Vec.{vec_capacity}
use Rattle.std.proofs.lemmas.List.{length-map}
use Rattle.hm_graph.specs.Outline.{outline}
use Rattle.hm_store.specs.Objects.{all_waiting}
use Rattle.hm_store.specs.Readiness.{HasRoom, IsHeapOf}
use Rattle.hm_store.specs.declared.object.Status.TheVariants.{Waiting}
use Rattle.hm_store.specs.Reaching.{dependents_in}
use Rattle.hm_store.proofs.DependentLists.{dependents_are}
use Rattle.hm_store.proofs.Openings.{opening_holds}
use Rattle.hm_store.proofs.ReadySteps.{opening_ready}
use Rattle.hm_store.proofs.store.Store.new.Goals as goal

pub invariant_of-result : goal.invariant_of-result
invariant_of-result c =
    let plan = c.args.plan in
    let counts = c.in_ok-open_imports.open_imports.items in
    let count : length (map arc_value c.args.modules.items) ≡ length plan = sym (c.requires.planned.len ∙ length-map (map arc_value c.args.modules.items) (λ m. outline m.header)) in
    let modules = length-map c.args.modules.items (arc_value {X = _} {Z = _}) in
    let size : c.len-count.result ≡ length plan = omega (arith, count, modules, c.len-count.ensures, c.args.modules.ok.0) in
    let filled : c.in_ok-statuses.statuses.items ≡ replicate c.len-count.result Waiting = search rules in
    let waiting : c.in_ok-statuses.statuses.items ≡ all_waiting plan = filled ∙ ap (λ (n : ℕ). replicate n Waiting) size in
    let heap : IsHeapOf (λ k. slice_index_or counts k 1 == 0) c.in_ok-ready.ready = subst (λ (xs : List ℕ). IsHeapOf (λ k. slice_index_or xs k 1 == 0) c.in_ok-ready.ready) c.deref.ensures.value c.in_ok-ready.ensures.heap in
    let room : HasRoom counts c.in_ok-ready.ready = subst (λ (xs : List ℕ). HasRoom xs c.in_ok-ready.ready) c.deref.ensures.value c.in_ok-ready.ensures.room in
    let kept : c.in_ok-outcomes.outcomes.items ≡ replicate (length (map arc_value c.args.modules.items)) None = c.in_ok-outcomes.ensures ∙ ap (λ (n : ℕ). replicate n None) (size ∙ sym count) in
    let space : 2 * length (map arc_value c.args.modules.items) + 1 ≤ vec_capacity c.in_ok-journal.journal = search rules in
    let few : vec_capacity c.in_ok-journal.journal < 2 ^ 62 = search rules in
    record {
      holds = rw (waiting, kept, c.in_ok-journal.ensures.items) (opening_holds (map arc_value c.args.modules.items) (record { imports = plan; dependents = dependents_in plan }) (vec_capacity c.in_ok-journal.journal) c.requires (dependents_are plan) space few);
      search_of = c.in_ok-search.ensures ∙ size;
      ready = rw waiting (opening_ready _ counts c.in_ok-ready.ready c.in_ok-open_imports.ensures heap room);
    }
