use Rattle.hm_infer_context.specs.Kept.{schemes_of}
use Rattle.hm_infer.proofs.CoreTables.{pushed_step, schemes_pushed}
use Rattle.hm_infer.proofs.declaring.add_exported.Invariants.{of_entry}
use Rattle.hm_infer.proofs.declaring.add_exported.Goals as goal

pub exported-preserved : goal.exported-preserved
exported-preserved c =
    pushed_step of_entry c.args.exported.now c.exported.entry-index c.entry-item.result (record { entity = record { «module» = c.as_str.result.now; name = c.as_str-in-exported.result.now }; scheme = c.entry-item.result.scheme }) (schemes_of c.exported.entries.items) (schemes_of c.push.new.self.items) _ c.exported-test.true c.entry-item.is (λ i. record { entity = record { «module» = c.as_str.ensures i; name = c.as_str-in-exported.ensures i }; scheme = c.entry-item.result.scheme }) c.exported.invariant (schemes_pushed _ _ _ c.in_ok-push.ensures.items)
