use Rattle.std.proofs.Common.{subst, sym}
use Rattle.hm_types.specs.declared.entries.ValueEntry.{ValueEntry}
use Rattle.hm_names.specs.Cores.{HasScheme, IsTop}
use Rattle.hm_names.specs.declared.cores.Exported.{Exported}
use Rattle.hm_names.specs.SchemeTables.{scheme_of}
use Rattle.hm_scope_interface_entries.proofs.EntriesMade.{entries_start, entries_more, entries_all}
use Rattle.hm_scope_interface_entries.proofs.entries.own_value_entries.Goals as goal

pub loop-exported-init : goal.loop-exported-init
loop-exported-init c = λ k tops up. entries_start (λ (r : ValueEntry). r.name) (λ (r : ValueEntry). r.entity) (λ (r : ValueEntry). HasScheme k (scheme_of c.args.schemes.now) r.entity r.scheme) c.args.exports.now c.in_ok-entries.entries.items c.in_ok-entries.ensures.items

pub loop-exported-preserved : goal.loop-exported-preserved
loop-exported-preserved c = λ k tops up. entries_more (λ (r : ValueEntry). r.name) (λ (r : ValueEntry). r.entity) (λ (r : ValueEntry). HasScheme k (scheme_of c.args.schemes.now) r.entity r.scheme) c.args.exports.now c.loop-exported.exported-index c.exported-item.result c.loop-exported.entries.items c.add_own_value.new.entries.items c.loop-exported-test.true c.exported-item.is up
    (λ o are. c.in_ok-add_own_value.ensures k _ (subst (λ (x : Exported). IsTop k x.entity) (sym c.exported-item.is) (tops c.loop-exported.exported-index c.exported-item.result c.loop-exported-test.true)) o are) (c.loop-exported.invariant k tops up)

pub returns : goal.returns
returns c = λ k tops up. entries_all (λ (r : ValueEntry). r.name) (λ (r : ValueEntry). r.entity) (λ (r : ValueEntry). HasScheme k (scheme_of c.args.schemes.now) r.entity r.scheme) c.args.exports.now c.loop-exported.exported-index c.loop-exported.entries.items c.loop-exported-test.false (c.loop-exported.invariant k tops up)
