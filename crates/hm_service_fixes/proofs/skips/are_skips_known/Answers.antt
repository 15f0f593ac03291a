use Rattle.std.proofs.Common.{ℕ, List, length, refl, subst}
use Rattle.hm_service_fixes.specs.Fixes.{IsSkipKnown}
use Rattle.hm_service_fixes.specs.Steps.{IsSkipFineAt}
use Rattle.hm_service_fixes.specs.Views.{judged_of}
use Rattle.hm_service_fixes.proofs.Between.{all_more}
use Rattle.hm_service_fixes.proofs.Explained.{inside_count, inside_end}
use Rattle.hm_service_fixes.proofs.skips.are_skips_known.Goals as goal
use Rattle.hm_verdicts.specs.Reports.{name_of_module}

pub returns-then-not-is_fine_skip-clause-no : goal.returns-then-not-is_fine_skip-clause-no
returns-then-not-is_fine_skip-clause-no c = λ _ all.
    let after = judged_of c.args.after.now in
    let i = c.modules.number in
    let inside = inside_count i (length after.set.modules) c.count_of-number-end.result c.modules-test.true c.count_of-number-end.ensures in
    c.is_fine_skip.ensures.no c.if-not-is_fine_skip.true (λ own skipped. all (name_of_module after.set i) (record { number = i; skipped = (record { inside = inside; named = refl }, skipped); own = own }))

pub modules-preserved : goal.modules-preserved
modules-preserved c =
    all_more (IsSkipFineAt (judged_of c.args.before.now) (judged_of c.args.after.now) c.args.source) c.modules.number (c.is_fine_skip.ensures.yes c.if-not-is_fine_skip.false) c.modules.invariant

pub returns-clause-yes : goal.returns-clause-yes
returns-clause-yes c = λ _ x h.
    let before = judged_of c.args.before.now in
    let after = judged_of c.args.after.now in
    let low = inside_end h.number (length after.set.modules) c.count_of-number-end.result c.modules.number h.skipped.0.inside c.count_of-number-end.ensures c.modules-test.false in
    subst (IsSkipKnown before) h.skipped.0.named (c.modules.invariant h.number low h.own h.skipped.1)
