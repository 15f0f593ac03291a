use Rattle.std.proofs.Common.{ℕ, List, take, Contains, ◌∷◌, []}
use Rattle.hm_syntax.specs.Lists.{declarations}
use Rattle.hm_syntax.specs.Trees.{Declaration}
use Rattle.hm_names.specs.Bindings.{Adds}
use Rattle.hm_names.specs.Variables.{bound_names, texts}
use Rattle.hm_names.proofs.AddedPairs.{ForEach}
use Rattle.hm_scope_interface_entries.proofs.known_exports.bound_variables.Given as goal

abbrev pub invariant-loop-decl : goal.invariant-loop-decl
invariant-loop-decl l = Adds l.initial.bound l.bound (ForEach (λ (d : Declaration) (x : List ℕ). Contains (texts (bound_names (declarations (d ∷ [])))) x) (take l.decl-index l.decls))
