use Rattle.std.proofs.Common.{◌≡◌, ℕ, List, ◌++◌, ◌-◌, drop, length, map, Bor}
use Rattle.hm_uses_declarations.specs.Bindings.{bindings_of, bound_in}
use Rattle.hm_uses_declarations.proofs.locals.add_bindings.Given as goal

abbrev pub invariant-names : goal.invariant-names
invariant-names l = (x : Bor (List ℕ)) → bindings_of l.table x ≡ bindings_of l.initial.table x ++ bound_in l.depth x.now (map (λ n. n.now) (drop (length l.names - l.behind) l.names))
