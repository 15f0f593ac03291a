use Rattle.std.proofs.Common.{◌++◌, ◌∷◌, [], map, take, subst}
use Rattle.hm_types.specs.declared.entries.ConstructorEntry.{ConstructorEntry}
use Rattle.hm_names.specs.Described.{ConstructorDescription}
use Rattle.hm_scope_entities.specs.Owners.{IsOwners}
use Rattle.hm_scope_entities.proofs.OwnerTables.{described_more, described_all, described_none}
use Rattle.hm_scope_entities.proofs.constructors.note_exported.Goals as goal

abbrev describe : ConstructorEntry → ConstructorDescription
describe r = record { entity = r.entity; owner = r.owner; arguments = r.arguments }

pub loop-entry-init : goal.loop-entry-init
loop-entry-init c = λ ds table. described_none describe ds c.args.entries.now c.args.owners.now table

pub loop-entry-preserved : goal.loop-entry-preserved
loop-entry-preserved c = λ ds table. described_more describe ds c.args.entries.now c.loop-entry.entry-index c.entry-item.result c.note_owner.new.owners c.loop-entry-test.true c.entry-item.is
    (subst (λ (d : ConstructorDescription). IsOwners ((ds ++ map describe (take c.loop-entry.entry-index c.args.entries.now)) ++ d ∷ []) c.note_owner.new.owners)
    (λ i. record { entity = c.of-constructor.ensures i; owner = c.of.ensures i; arguments = c.entry-item.result.arguments })
    (c.in_ok-note_owner.ensures _ c.entry-item.result.arguments (c.loop-entry.invariant ds table)))

pub returns : goal.returns
returns c = λ ds table. described_all describe ds c.args.entries.now c.loop-entry.entry-index c.loop-entry.owners c.loop-entry-test.false (c.loop-entry.invariant ds table)
