use Rattle.std.proofs.Common.{◌≡◌, All, Contains, subst, arith}
use Rattle.std.proofs.lemmas.List.{take_all}
use Rattle.std.proofs.lemmas.List.Elements.{All-more}
use Rattle.hm_names.specs.declared.cores.Exported.{Exported}
use Rattle.hm_scope_interface_entries.proofs.entries.are_own.Goals as goal

pub loop-exported-preserved : goal.loop-exported-preserved
loop-exported-preserved c = All-more (λ (x : Exported). (x.entity.«module» ≡ c.args.home.now) × Contains c.args.own.now x.entity.name) c.args.exports.now c.loop-exported.exported-index c.exported-item.result
    c.loop-exported-test.true c.loop-exported.invariant
    (subst (λ (x : Exported). (x.entity.«module» ≡ c.args.home.now) × Contains c.args.own.now x.entity.name) c.exported-item.is (c.is_own.ensures c.if-not-is_own.false))

pub returns : goal.returns
returns c = λ _. subst (All (λ (x : Exported). (x.entity.«module» ≡ c.args.home.now) × Contains c.args.own.now x.entity.name)) (take_all c.loop-exported.exported-index c.args.exports.now (omega arith)) c.loop-exported.invariant
