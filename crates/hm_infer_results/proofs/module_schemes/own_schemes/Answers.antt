use Rattle.std.proofs.Common.{sym, subst}
use Rattle.hm_names.specs.SchemeTables.{scheme_of}
use Rattle.hm_infer_context.specs.Environments.{AreAssumed}
use Rattle.hm_infer_generalisation.proofs.Closing.{assumed_at}
use Rattle.hm_infer_results.proofs.SchemesPut.{step_put, all_put}
use Rattle.hm_infer_results.proofs.module_schemes.own_schemes.Goals as goal

pub put_scheme-requires : goal.put_scheme-requires
put_scheme-requires c = assumed_at 0 c.as_slice-binding-items.result.now _ c.bindings.binding-index c.binding-item.result (subst (AreAssumed 0) (sym c.as_slice-binding-items.ensures) c.requires) c.bindings-test.true c.binding-item.is

pub bindings-preserved : goal.bindings-preserved
bindings-preserved c = step_put c.args.home.now c.as_slice-binding-items.result.now c.bindings.binding-index c.binding-item.result (scheme_of c.bindings.schemes) (scheme_of c.put_scheme.new.schemes) c.bindings-test.true c.binding-item.is c.bindings.invariant c.in_ok-put_scheme.ensures

pub returns : goal.returns
returns c = all_put c.args.home.now c.as_slice-binding-items.result.now c.bindings.binding-index (scheme_of c.bindings.schemes) c.args.environment.now c.bindings-test.false c.as_slice-binding-items.ensures c.bindings.invariant
