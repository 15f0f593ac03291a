use Rattle.std.proofs.Common.{◌≡◌, take, length}
use Rattle.hm_syntax_equality.proofs.rows.are_same.Given as goal

abbrev pub invariant-loop-i : goal.invariant-loop-i
invariant-loop-i g l = record {
  as_many : length l.lefts ≡ length l.rights;
  same : take l.i l.lefts ≡ take l.i l.rights;
}
