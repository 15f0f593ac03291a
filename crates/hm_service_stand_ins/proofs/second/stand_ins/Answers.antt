use Rattle.std.proofs.Common.{rules, ◌≡◌, [], ℕ, List, Option, Vec, Global, length, map, subst}
use Rattle.std.specs.Prelude.{option_map}
use Rattle.hm_service_stand_ins.specs.Findings.{findings_of}
use Rattle.hm_service_stand_ins.specs.StandIns.{IsStandIn}
use Rattle.hm_service_stand_ins.proofs.Growing.{set_begin, set_end, set_more}
use Rattle.hm_service_stand_ins.proofs.second.stand_ins.Goals as goal

pub sources-init : goal.sources-init
sources-init c =
    let none : c.new-set.result.items ≡ [] = search rules in
    set_begin (findings_of c.args.said.now) c.args.held.now (map (option_map (λ t. t.items)) c.args.good.now) c.new-set.result.items none

pub sources-preserved : goal.sources-preserved
sources-preserved c =
    let f = findings_of c.args.said.now in
    let of : Option (Vec ℕ Global) → Option (List ℕ) = option_map (λ t. t.items) in
    let source = c.in_ok-source.source in
    let here = subst (λ (b : Option (List ℕ)). IsStandIn f c.sources.number c.index-held-number.result b source) c.good_at.ensures c.in_ok-source.ensures in
    set_more f c.args.held.now (map of c.args.good.now) c.sources.number c.index-held-number.result c.sources.set.items c.push.new.self.items source (search rules) c.index-held-number.is here c.in_ok-push.ensures.items c.sources.invariant

pub returns : goal.returns
returns c =
    let ends : c.sources.number ≡ length c.args.held.now = search rules in
    set_end (findings_of c.args.said.now) c.args.held.now (map (option_map (λ t. t.items)) c.args.good.now) c.sources.number c.sources.set.items ends c.sources.invariant
