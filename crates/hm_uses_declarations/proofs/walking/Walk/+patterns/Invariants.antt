use Rattle.std.proofs.Common.{◌≡◌, drop}
use Rattle.hm_syntax.specs.Lists.{patterns}
use Rattle.hm_syntax.specs.Sizes.{pattern_size, patterns_size}
use Rattle.hm_uses.specs.Found.{patterns_uses}
use Rattle.hm_uses_declarations.specs.Walking.{adding, home_of}
use Rattle.hm_uses_declarations.proofs.walking.Walk.+patterns.Given as goal

abbrev pub decreases-pat : goal.decreases-pat
decreases-pat l = pattern_size l.pat.now

abbrev pub decreases-pat_row : goal.decreases-pat_row
decreases-pat_row l = patterns_size (patterns l.row.now)

abbrev pub invariant-pat_row-row : goal.invariant-pat_row-row
invariant-pat_row-row l = record {
  state : adding (patterns_uses l.fn.self.known (home_of l.fn.self.groups) (patterns (drop l.pat-index l.row))) l.self ≡ adding (patterns_uses l.fn.self.known (home_of l.fn.self.groups) (patterns l.row)) l.fn.self;
  known : l.self.known ≡ l.fn.self.known;
  groups : l.self.groups ≡ l.fn.self.groups;
}
