use Rattle.std.proofs.Common.{◌≡◌, ◌-◌, ◌≤◌, drop}
use Rattle.hm_names.specs.Special.{tuple_after, tuple_of}
use Rattle.hm_names.proofs.special.tuple_arity.Given as goal

abbrev pub invariant-loop-i : goal.invariant-loop-i
invariant-loop-i l = record {
  read : tuple_of l.text ≡ tuple_after (l.i - 1) (drop l.i l.text);
  from : 2 ≤ l.i;
}
