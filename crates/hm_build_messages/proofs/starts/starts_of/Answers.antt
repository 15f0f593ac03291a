use Rattle.std.proofs.Common.{rules, ◌≡◌, ◌∙◌, arith, get_or}
use Rattle.std.proofs.lemmas.List.{take_all}
use Rattle.std.specs.Arc.{arc_value}
use Rattle.hm_messages.specs.ModuleStarts.{module_start, start_of}
use Rattle.hm_messages.specs.declared.starts.ModuleStart.{ModuleStart}
use Rattle.hm_build_messages.proofs.Starting.{mapped_more, numbered_more}
use Rattle.hm_build_messages.proofs.starts.starts_of.Goals as goal

pub loop-number-preserved : goal.loop-number-preserved
loop-number-preserved c =
    let start : ModuleStart = c.start_at.result in
    let old = c.loop-number.starts.items in
    let k = c.loop-number.number in
    let low = c.loop-number-test.true in
    let same : start_of start ≡ module_start (arc_value c.index-modules-number.result) = search rules in
    let number : start.source ≡ get_or c.args.origins.now k 0 = search rules in
    record {
      named = mapped_more start_of (λ m. module_start (arc_value m)) c.args.modules.now k c.index-modules-number.result old c.push.new.self.items start low c.index-modules-number.is c.in_ok-push.ensures.items same c.loop-number.invariant.named;
      sources = numbered_more (λ (s : ModuleStart). s.source) c.args.origins.now k old c.push.new.self.items start (omega (arith, low, c.requires)) c.in_ok-push.ensures.items number c.loop-number.invariant.sources;
    }

pub returns-clause-sources : goal.returns-clause-sources
returns-clause-sources c = c.loop-number.invariant.sources ∙ take_all c.loop-number.number c.args.origins.now (omega (arith, c.loop-number-test.false, c.requires))
