use Rattle.std.proofs.Common.{◌≡◌, ◌++◌, None, drop, map, option_map}
use Rattle.hm_build_objects.specs.Objects.{runs}
use Rattle.hm_build_objects.proofs.declared.once_each.Given as goal

abbrev pub invariant-loop-name : goal.invariant-loop-name
invariant-loop-name l = l.out ++ runs (option_map (λ t. t.now) l.before) (map (λ n. n.now) (drop l.name-index l.names)) ≡ runs None (map (λ n. n.now) l.names)
