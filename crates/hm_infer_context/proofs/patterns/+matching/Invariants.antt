use Rattle.std.proofs.Common.{◌≤◌, length, drop}
use Rattle.hm_types.specs.Types.{put}
use Rattle.hm_syntax.specs.Sizes.{pattern_size, patterns_size}
use Rattle.hm_syntax.specs.Lists.{patterns}
use Rattle.hm_typing.specs.Names.{Identifier}
use Rattle.hm_typing.specs.Schemes.{Monotype}
use Rattle.hm_typing.specs.Syntax.{patterns_names}
use Rattle.hm_typing.specs.Patterns.{MatchesAll}
use Rattle.hm_infer_context.specs.Patterns.{HaveTypes, IsMatched, from_number}
use Rattle.hm_names.specs.Syntax.{patterns_of}
use Rattle.hm_infer_context.specs.Constructors.{known_of}
use Rattle.hm_infer_context.specs.PartTypes.{is_one, first_of}
use Rattle.hm_infer_context.proofs.ConstructorParts.{TypesMatched}
use Rattle.hm_infer_context.proofs.patterns.+matching.Given as goal

abbrev pub decreases-match_pattern : goal.decreases-match_pattern
decreases-match_pattern l = pattern_size l.pattern.now

abbrev pub decreases-match_patterns : goal.decreases-match_patterns
decreases-match_patterns l = patterns_size (patterns l.parts.now)

abbrev pub decreases-match_patterns-parts : goal.decreases-match_patterns-parts
decreases-match_patterns-parts l = l.j

abbrev pub invariant-match_patterns-parts : goal.invariant-match_patterns-parts
invariant-match_patterns-parts l = record {
  in_range : l.j ≤ length l.parts;
  matched : (τ : Identifier → Monotype) → HaveTypes τ l.initial.variables → (τ' : Identifier → Monotype)
      × IsMatched (λ ρ r. MatchesAll ρ (patterns_of (known_of l.constructors) (patterns (drop l.j l.parts))) (λ i. put r (from_number (is_one l.types) (first_of l.types) i)) l.j) (patterns_names (patterns_of (known_of l.constructors) (patterns (drop l.j l.parts))))
      l.initial.solver l.initial.variables τ l.solver l.variables τ';
}

abbrev pub decreases-match_row : goal.decreases-match_row
decreases-match_row l = patterns_size (patterns l.parts.now)

abbrev pub decreases-match_row-parts : goal.decreases-match_row-parts
decreases-match_row-parts l = l.j

abbrev pub invariant-match_row-parts : goal.invariant-match_row-parts
invariant-match_row-parts l = record {
  in_range : l.j ≤ length l.parts;
  matched : TypesMatched (known_of l.constructors) (drop l.j l.parts) l.types l.j l.initial.solver l.initial.variables l.solver l.variables;
}
