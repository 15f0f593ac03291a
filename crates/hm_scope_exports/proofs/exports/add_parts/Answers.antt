use Rattle.std.proofs.Common.{◌≡◌}
use Rattle.hm_types.specs.declared.Entity.{Entity}
use Rattle.hm_syntax.specs.Names.{Identifier}
use Rattle.hm_names.specs.declared.faults.Fault.{Fault}
use Rattle.hm_names.specs.declared.faults.Kind.TheVariants.{Unbound}
use Rattle.hm_names.specs.Bindings.{Pair}
use Rattle.hm_scope_export_items.specs.ExportGroups.{IsOwned}
use Rattle.hm_names.specs.Exports.{HasConstructor}
use Rattle.hm_names.specs.Faults.Phases.{fault}
use Rattle.hm_names.proofs.AddedPairs.{for_none, for_more, for_all}
use Rattle.hm_scope_exports.proofs.exports.add_parts.Goals as goal

pub loop-part-init : goal.loop-part-init
loop-part-init c = λ m fs e. (
  for_none (λ (n : Identifier) (p : Pair). IsOwned m fs c.args.owner.now p × (p.text ≡ n.text)) c.args.out.now.items c.args.parts.now,
  for_none (λ (n : Identifier) (g : Fault). ((k : Entity) → ¬ (HasConstructor m fs c.args.owner.now n.text k)) × (fault Unbound n ≡ g)) c.args.faults.now.items c.args.parts.now,
)

pub loop-part-preserved : goal.loop-part-preserved
loop-part-preserved c = λ m fs e. let before = c.loop-part.invariant m fs e in (
  for_more (λ (n : Identifier) (p : Pair). IsOwned m fs c.args.owner.now p × (p.text ≡ n.text)) c.args.out.now.items c.loop-part.out.items c.add_part.new.out.items c.args.parts.now c.loop-part.part-index c.part-item.result c.loop-part-test.true c.part-item.is before.0 (c.in_ok-add_part.ensures.given m fs e),
  for_more (λ (n : Identifier) (g : Fault). ((k : Entity) → ¬ (HasConstructor m fs c.args.owner.now n.text k)) × (fault Unbound n ≡ g)) c.args.faults.now.items c.loop-part.faults.items c.add_part.new.faults.items c.args.parts.now c.loop-part.part-index c.part-item.result c.loop-part-test.true c.part-item.is before.1 (c.in_ok-add_part.ensures.faults m fs e),
)

pub returns-clause-given : goal.returns-clause-given
returns-clause-given c = λ m fs e. for_all (λ (n : Identifier) (p : Pair). IsOwned m fs c.args.owner.now p × (p.text ≡ n.text)) c.args.out.now.items c.loop-part.out.items c.args.parts.now c.loop-part.part-index c.loop-part-test.false (c.loop-part.invariant m fs e).0

pub returns-clause-faults : goal.returns-clause-faults
returns-clause-faults c = λ m fs e. for_all (λ (n : Identifier) (g : Fault). ((k : Entity) → ¬ (HasConstructor m fs c.args.owner.now n.text k)) × (fault Unbound n ≡ g)) c.args.faults.now.items c.loop-part.faults.items c.args.parts.now c.loop-part.part-index c.loop-part-test.false (c.loop-part.invariant m fs e).1
