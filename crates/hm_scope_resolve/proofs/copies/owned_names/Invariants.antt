use Rattle.std.proofs.Common.{◌≡◌, ◌++◌, drop, map}
use Rattle.hm_scope_resolve.proofs.copies.owned_names.Given as goal

abbrev pub invariant-names : goal.invariant-names
invariant-names l = l.copies.items ++ map (λ n. n.now) (drop l.name-index l.row) ≡ map (λ n. n.now) l.row
