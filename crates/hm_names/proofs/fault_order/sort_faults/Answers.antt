use Rattle.std.proofs.Common.{◌≡◌, List, refl, sym, subst, Contains}
use Rattle.std.specs.List.{dedup}
use Rattle.std.specs.Ordering.{eq_by_cmp}
use Rattle.std.proofs.lemmas.List.Filters.{dedup_is}
use Rattle.std.proofs.lemmas.List.Kept.{IsStrictlySortedBy-dedup, Contains-dedup, Contains-from_dedup}
use Rattle.std.proofs.lemmas.List.Sorted.{Contains-permutation, IsPermutation-sym}
use Rattle.hm_names.specs.Faults.Phases.{AreOrdered}
use Rattle.hm_names.specs.FaultOrder.{fault_cmp, fault_total, same_faults}
use Rattle.hm_names.specs.declared.faults.Fault.{Fault}
use Rattle.hm_names.proofs.SortedFaults.{ordered, one_by_test}
use Rattle.hm_names.proofs.fault_order.sort_faults.Goals as goal

pub returns-clause-ordered : goal.returns-clause-ordered
returns-clause-ordered c =
    let sorted : List Fault = c.sort.new.self.items in
    let left : c.dedup.new.self.items ≡ dedup (eq_by_cmp fault_cmp) sorted = dedup_is (eq_by_cmp fault_cmp) sorted c.dedup.new.self.items c.dedup.ensures.filtered in
    subst AreOrdered (sym left) (ordered (dedup (eq_by_cmp fault_cmp) sorted) (IsStrictlySortedBy-dedup fault_total (λ x y. refl) sorted c.in_ok-sort.ensures.sorted))

pub returns-clause-same : goal.returns-clause-same
returns-clause-same c = λ f.
    let sorted : List Fault = c.sort.new.self.items in
    let left : c.dedup.new.self.items ≡ dedup (eq_by_cmp fault_cmp) sorted = dedup_is (eq_by_cmp fault_cmp) sorted c.dedup.new.self.items c.dedup.ensures.filtered in (
      λ h. Contains-permutation sorted c.args.faults.items f (IsPermutation-sym c.args.faults.items sorted c.in_ok-sort.ensures.permutation) (Contains-from_dedup (eq_by_cmp fault_cmp) sorted f (subst (λ l. Contains l f) left h)),
      λ h. subst (λ l. Contains l f) (sym left) (Contains-dedup same_faults one_by_test sorted f (Contains-permutation c.args.faults.items sorted f c.in_ok-sort.ensures.permutation h)),
    )
