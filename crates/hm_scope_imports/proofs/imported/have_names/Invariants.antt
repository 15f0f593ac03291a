use Rattle.std.proofs.Common.{◌≡◌, map, take, length}
use Rattle.std.specs.Arc.{arc_value}
use Rattle.hm_scope_imports.proofs.imported.have_names.Given as goal

abbrev pub invariant-loop-i : goal.invariant-loop-i
invariant-loop-i l = record {
  same : map (λ f. f.name) (map arc_value (take l.i l.interfaces)) ≡ map (λ n. n.now) (take l.i l.names);
  sized : length l.interfaces ≡ length l.names;
}
