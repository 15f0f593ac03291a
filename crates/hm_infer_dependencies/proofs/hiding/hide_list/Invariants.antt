use Rattle.std.proofs.Common.{drop}
use Rattle.hm_syntax.specs.Lists.{declarations}
use Rattle.hm_infer_dependencies.specs.References.{list_variables}
use Rattle.hm_infer_dependencies.proofs.Walking.{StillHides}
use Rattle.hm_infer_dependencies.proofs.hiding.hide_list.Given as goal

abbrev pub invariant-loop-place : goal.invariant-loop-place
invariant-loop-place l = StillHides l.numbers (list_variables (declarations (drop l.place l.decls))) (list_variables (declarations l.decls)) l.initial.shown l.shown l.initial.noted.items l.noted.items
