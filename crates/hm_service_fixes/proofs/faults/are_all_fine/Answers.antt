use Rattle.std.proofs.Common.{ℕ, List, length, refl, subst}
use Rattle.hm_service_fixes.specs.Steps.{IsFine, IsFineAt}
use Rattle.hm_service_fixes.specs.Views.{judged_of}
use Rattle.hm_service_fixes.proofs.Between.{all_more}
use Rattle.hm_service_fixes.proofs.Explained.{inside_count, inside_end}
use Rattle.hm_service_fixes.proofs.faults.are_all_fine.Goals as goal
use Rattle.hm_verdicts.specs.Reports.{name_of_module}

pub returns-then-not-is_fine_at-clause-no : goal.returns-then-not-is_fine_at-clause-no
returns-then-not-is_fine_at-clause-no c = λ _ all.
    let after = judged_of c.args.after.now in
    let i = c.modules.number in
    let inside = inside_count i (length after.set.modules) c.count_of-number-end.result c.modules-test.true c.count_of-number-end.ensures in
    c.is_fine_at.ensures.no c.if-not-is_fine_at.true (λ own found failed g among. all (name_of_module after.set i) g (record {
      number = i;
      found = found;
      failed = record { named = record { inside = inside; named = refl }; failed = failed };
      own = own;
      among = among;
    }))

pub modules-preserved : goal.modules-preserved
modules-preserved c =
    all_more (IsFineAt (judged_of c.args.before.now) (judged_of c.args.after.now) c.args.change.now) c.modules.number (c.is_fine_at.ensures.yes c.if-not-is_fine_at.false) c.modules.invariant

pub returns-clause-yes : goal.returns-clause-yes
returns-clause-yes c = λ _ x g h.
    let before = judged_of c.args.before.now in
    let after = judged_of c.args.after.now in
    let low = inside_end h.number (length after.set.modules) c.count_of-number-end.result c.modules.number h.failed.named.inside c.count_of-number-end.ensures c.modules-test.false in
    subst (λ (y : List ℕ). IsFine before c.args.change.now y g) h.failed.named.named (c.modules.invariant h.number low h.own h.found h.failed.failed g h.among)
