use Rattle.std.proofs.Common.{◌≡◌, ◌++◌, drop}
use Rattle.hm_names.specs.Cores.{declared_schemes}
use Rattle.hm_infer_context.specs.Kept.{schemes_of}
use Rattle.hm_infer.proofs.declaring.add_declared.Given as goal

abbrev pub invariant-decls : goal.invariant-decls
invariant-decls l = schemes_of l.entries.items ++ declared_schemes l.home (drop l.decl-index l.decls) ≡ schemes_of l.initial.entries.items ++ declared_schemes l.home l.decls
