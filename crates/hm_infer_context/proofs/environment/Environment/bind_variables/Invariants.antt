use Rattle.std.proofs.Common.{◌≡◌}
use Rattle.hm_infer_context.specs.Environments.{Extends}
use Rattle.hm_infer_context.specs.Kept.{stack, monomorphic_of}
use Rattle.hm_infer_context.proofs.environment.Environment.bind_variables.Given as goal

abbrev pub invariant-loop-item : goal.invariant-loop-item
invariant-loop-item l = record {
  bound : l.self ≡ stack monomorphic_of l.yielded l.initial.self;
  kept : Extends l.initial.self l.self;
}
