use Rattle.std.proofs.Common.{◌≡◌, ◌≤◌, ◌+◌, length}
use Rattle.hm_parse_grammar.specs.Reading.Constructors.{marks}
use Rattle.hm_parse_descent.proofs.cursor.Parser.commas.Given as goal

abbrev pub invariant-marks : goal.invariant-marks
invariant-marks l = record {
  count : l.commas + (marks l.self).0 ≡ (marks l.initial.self).0;
  rest : (marks l.self).1 ≡ (marks l.initial.self).1;
  few : l.commas ≤ 14;
}

abbrev pub decreases-marks : goal.decreases-marks
decreases-marks l = length l.self
