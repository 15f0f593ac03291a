-- The order of faults as the code computes it, with its laws. No public clause names these.
use Rattle.std.specs.Ordering.{nat_cmp, on, then_cmp, eq_by_cmp}
use Rattle.std.specs.declared.cmp.Ordering.{Ordering}
use Rattle.std.specs.Cmp.{IsTotalOrder, IsEquivalence, then_total, on_total, nat_cmp_total, eq_by_cmp_equiv}
use Rattle.std.specs.Cmp.Lexicographic.{slice_cmp, on_texts}
use Rattle.hm_names.specs.declared.faults.Fault.{Fault}
use Rattle.hm_names.specs.Faults.Phases.{kind_number}

abbrev pub fault_cmp : Fault → Fault → Ordering
fault_cmp = then_cmp (on (λ f. f.place.line) nat_cmp) (then_cmp (on (λ f. f.place.column) nat_cmp) (then_cmp (on (λ f. kind_number f.kind) nat_cmp) (on (λ f. f.name) (slice_cmp nat_cmp))))

pub fault_total : IsTotalOrder fault_cmp
fault_total = then_total (on_total (λ f. f.place.line) nat_cmp_total) (then_total (on_total (λ f. f.place.column) nat_cmp_total) (then_total (on_total (λ f. kind_number f.kind) nat_cmp_total) (on_texts (λ f. f.name))))

pub same_faults : IsEquivalence (eq_by_cmp fault_cmp)
same_faults = eq_by_cmp_equiv fault_total
