use Rattle.std.proofs.Common.{◌≡◌, ℕ, List, ◌++◌, drop, map, Bor}
use Rattle.hm_uses_declarations.specs.Bindings.{bindings_of, bound_in}
use Rattle.hm_uses_declarations.specs.declared.locals.Binding.{Binding}
use Rattle.hm_uses_declarations.proofs.locals.remove_bindings.Given as goal

abbrev pub invariant-names : goal.invariant-names
invariant-names l = (x : Bor (List ℕ)) (bs : List Binding) (depth : ℕ) → bindings_of l.initial.table x ≡ bs ++ bound_in depth x.now (map (λ n. n.now) l.names) → bindings_of l.table x ≡ bs ++ bound_in depth x.now (map (λ n. n.now) (drop l.name-index l.names))
