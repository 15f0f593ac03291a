use Rattle.std.proofs.Common.{◌≡◌, ◌∙◌, ◌-◌, ◌<◌, ap, length, refl, subst, sym}
use Rattle.std.proofs.lemmas.Bool.{both_ways}
use Rattle.std.proofs.lemmas.List.{length-map}
use Rattle.std.specs.Arc.{arc_value}
use Rattle.hm_service_completions.specs.Completions.{IsBegun}
use Rattle.hm_service_references.specs.Views.{known_of}
use Rattle.hm_service_completions.proofs.Walking.{back_more, ended, inside, later}
use Rattle.hm_service_completions.proofs.modules.module_at.Goals as goal

pub modules-preserved : goal.modules-preserved
modules-preserved c =
    let count = length c.modules-count.result.now in
    back_more (IsBegun (known_of c.args.view.now) c.args.spot.now.part.now c.args.spot.now.source c.args.spot.now.line) count c.modules.back (count - 1 - c.modules.back) c.modules-test.true refl
    (λ begun. both_ways c.is_begun.result c.if-is_begun.false (c.is_begun.ensures.1 begun)) c.modules.invariant

pub returns-then-is_begun-clause-some : goal.returns-then-is_begun-clause-some
returns-then-is_begun-clause-some c =
    let count = length c.modules-count.result.now in
    let long : count ≡ length c.args.view.now.store.now.modules = sym (length-map c.modules-count.result.now arc_value) ∙ ap length c.modules-count.ensures in
    record {
      inside = subst (λ n. count - 1 - c.modules.back < n) long (inside count c.modules.back c.modules-test.true);
      begun = c.is_begun.ensures.0 c.if-is_begun.true;
      last = λ j after below. c.modules.invariant j (later count c.modules.back (count - 1 - c.modules.back) j c.modules-test.true refl after) (subst (λ n. j < n) (sym long) below);
    }

pub returns-clause-none : goal.returns-clause-none
returns-clause-none c = λ j below.
    let count = length c.modules-count.result.now in
    let long : count ≡ length c.args.view.now.store.now.modules = sym (length-map c.modules-count.result.now arc_value) ∙ ap length c.modules-count.ensures in
    c.modules.invariant j (ended count c.modules.back j c.modules-test.false) (subst (λ n. j < n) (sym long) below)
