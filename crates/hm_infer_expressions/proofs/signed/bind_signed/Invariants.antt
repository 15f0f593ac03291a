use Rattle.std.proofs.Common.{ℕ, ◌-◌, drop, length}
use Rattle.hm_syntax.specs.Lists.{declarations}
use Rattle.hm_names.specs.Syntax.{Known, bindings_of}
use Rattle.hm_infer_context.specs.Environments.{AreAssumed, Extends}
use Rattle.hm_infer_expressions.specs.SignedLists.{BindsSigned}
use Rattle.hm_infer_expressions.proofs.signed.bind_signed.Given as goal

abbrev pub invariant-decls : goal.invariant-decls
invariant-decls l = record {
  bound : (k : Known) → BindsSigned (bindings_of k (declarations l.decls) (declarations (drop (length l.decls - l.behind) l.decls))) l.initial.environment l.environment;
  given : (g : ℕ) → AreAssumed g l.initial.environment → AreAssumed g l.environment;
  kept : Extends l.initial.environment l.environment;
}
