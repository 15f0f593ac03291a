use Rattle.std.proofs.Common.{rules}
use Rattle.hm_syntax.specs.Lists.{declarations}
use Rattle.hm_names.specs.Faults.Phases.{fault}
use Rattle.hm_names.specs.Variables.{clause_names, texts}
use Rattle.hm_names.specs.declared.faults.Kind.TheVariants.{NoBinding}
use Rattle.hm_scope_resolve.proofs.NamesTwice.{empty_outside}
use Rattle.hm_scope_resolve.proofs.list_faults.add_unbound.Goals as goal

pub returns-then-is_empty : goal.returns-then-is_empty
returns-then-is_empty c = empty_outside (fault NoBinding) (texts (clause_names (declarations c.args.decls.now))) c.as_slice.result.now c.args.signed.now c.args.faults.now.items c.as_slice.ensures (search rules)
