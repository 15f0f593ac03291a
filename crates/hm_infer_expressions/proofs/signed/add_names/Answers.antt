use Rattle.std.proofs.Common.{◌+◌, drop, Some, ◌∙◌}
use Rattle.std.proofs.lemmas.Map.Text.{hash_map_updates_str}
use Rattle.hm_infer_dependencies.proofs.Rows.{unrolled, past}
use Rattle.hm_names.specs.Types.{declared_type}
use Rattle.hm_infer_expressions.proofs.SignedNames.{name_step, names_done}
use Rattle.hm_infer_expressions.proofs.signed.add_names.Goals as goal

pub names-preserved : goal.names-preserved
names-preserved c = λ x.
    name_step x c.args.ty c.names.signatures c.insert.new.self c.index-names-place.result c.as_str.result.now (drop c.names.place c.args.names.now) (drop (c.names.place + 1) c.args.names.now) c.as_str.ensures
    (unrolled c.args.names.now c.names.place c.index-names-place.result c.names-test.true c.index-names-place.is)
    (hash_map_updates_str c.as_str.result.now c.names.signatures c.insert.new.self (Some c.args.ty) c.in_ok-insert.ensures.updates x)
    ∙ c.names.invariant x

pub returns : goal.returns
returns c = λ x. names_done x (Some (declared_type c.args.ty.now)) c.names.signatures (drop c.names.place c.args.names.now) _ (past _ _ c.names-test.false) (c.names.invariant x)
