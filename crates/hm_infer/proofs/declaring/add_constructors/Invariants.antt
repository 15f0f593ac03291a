use Rattle.std.proofs.Common.{◌≡◌, ◌++◌, map, drop}
use Rattle.hm_names.specs.Cores.{scheme_in}
use Rattle.hm_infer_context.specs.Kept.{schemes_of}
use Rattle.hm_infer.proofs.declaring.add_constructors.Given as goal

abbrev pub invariant-constrs : goal.invariant-constrs
invariant-constrs l = schemes_of l.entries.items ++ map (scheme_in l.owner.home.now l.owner.name.now l.owner.params.now) (drop l.constr-index l.constrs) ≡ schemes_of l.initial.entries.items ++ map (scheme_in l.owner.home.now l.owner.name.now l.owner.params.now) l.constrs
