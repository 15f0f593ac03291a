use Rattle.std.proofs.Common.{take}
use Rattle.hm_names.specs.SchemeTables.{scheme_of}
use Rattle.hm_infer_context.specs.Kept.{entries_of}
use Rattle.hm_infer_expressions.specs.OwnSchemes.{HaveCanonical}
use Rattle.hm_infer_results.proofs.module_schemes.own_schemes.Given as goal

abbrev pub invariant-bindings : goal.invariant-bindings
invariant-bindings l = HaveCanonical l.home (entries_of (take l.binding-index l.binding-items)) (scheme_of l.schemes)
