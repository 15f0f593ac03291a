-- What holds before the first step.
use Rattle.std.proofs.Common.{◌≡◌, ℕ, ◌+◌, ◌*◌, ◌<◌, ◌≤◌, ◌^◌, ⊎_elim, false, List, [], length, replicate, Option, Some, None, refl, sym, ◌∙◌, arith}
use Rattle.std.proofs.lemmas.Bool.{cases_lt}
use Rattle.std.proofs.lemmas.List.{get_or_past, get_or-replicate, length-map, length-replicate}
use Rattle.std.proofs.lemmas.List.Folds.{sum_by-replicate}
use Rattle.hm_graph.specs.Outline.{outline}
use Rattle.hm_syntax.specs.declared.ast.Module.{Module}
use Rattle.hm_verdicts.specs.Sets.{IsLawfulSet}
use Rattle.hm_verdicts.specs.Outcomes.{Checked}
use Rattle.hm_store.specs.Plans.{Given, AreDependents}
use Rattle.hm_store.specs.Objects.{all_waiting, status_at}
use Rattle.hm_store.specs.Builds.{AgreesWith, kept_at}
use Rattle.hm_store.specs.StoresInside.{Holds, left_for}
use Rattle.hm_store.specs.declared.object.Status.TheVariants.{Waiting, Skipped}

none_kept : (n m : ℕ) → kept_at (replicate n None) m ≡ None
none_kept n m = ⊎_elim (λ (l : m < n). get_or-replicate n m None None l)
    (λ (past : n ≤ m). get_or_past (replicate n None) m None (let e = length-replicate {A = Option Checked} n None in omega (arith, e, past))) (cases_lt m n)

none_agrees : (n k m : ℕ) → AgreesWith (status_at (replicate n Waiting) m) (kept_at (replicate k None) m)
none_agrees n k m = ⊎_elim (λ (l : m < n). rw (get_or-replicate n m Waiting Skipped l) (none_kept k m))
    (λ (past : n ≤ m). rw (get_or_past (replicate n Waiting) m Skipped (let e = length-replicate n Waiting in omega (arith, e, past))) (none_kept k m)) (cases_lt m n)

pub opening_holds : (modules : List Module) (g : Given) (room : ℕ) → IsLawfulSet (record { modules = modules; plan = g.imports }) → AreDependents g → 2 * length modules + 1 ≤ room → room < 2 ^ 62
    → Holds (record { modules = modules; given = g; journal = []; kept = replicate (length modules) None }) (all_waiting g.imports) false room
opening_holds modules g room lawful dependents enough few = record {
  legal = record {
    lawful = lawful;
    dependents = dependents;
    allowed = tt;
    count = length-replicate (length modules) None;
    agrees = none_agrees (length g.imports) (length modules);
    sound = λ m c at. let e : None ≡ Some c = sym (none_kept (length modules) m) ∙ at in absurd (cc);
  };
  state = refl;
  space = let s = sum_by-replicate left_for (length g.imports) Waiting in
      let n : length g.imports ≡ length modules = lawful.planned.len ∙ length-map modules (λ m. outline m.header) in
      omega (arith, s, n, enough);
  few = few;
}
