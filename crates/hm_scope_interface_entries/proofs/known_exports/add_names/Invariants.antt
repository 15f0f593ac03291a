use Rattle.std.proofs.Common.{◌≡◌, ℕ, List, take, Bor}
use Rattle.hm_syntax.specs.Names.{Identifier}
use Rattle.hm_names.specs.Bindings.{Adds}
use Rattle.hm_names.proofs.AddedPairs.{ForEach}
use Rattle.hm_scope_interface_entries.proofs.known_exports.add_names.Given as goal

abbrev pub invariant-loop-name : goal.invariant-loop-name
invariant-loop-name l = Adds l.initial.out l.out (ForEach (λ (n : Bor Identifier) (x : List ℕ). n.now.text ≡ x) (take l.name-index l.names))
