use Rattle.std.proofs.Common.{◌≡◌, take}
use Rattle.hm_types.specs.declared.Head.{Head}
use Rattle.hm_types.specs.Types.{App as app}
use Rattle.hm_types.specs.Monotypes.{size, arguments_of}
use Rattle.hm_types.specs.Shape.{type_of, types_of}
use Rattle.hm_unify.specs.Levels.{has_in_any}
use Rattle.hm_unify.specs.LevelTables.{Continues, Lowers}
use Rattle.hm_unify.proofs.levels.Levels.+lower.Given as goal

abbrev pub decreases-lower : goal.decreases-lower
decreases-lower l = size (type_of l.t.now)

abbrev pub invariant-loop-argument : goal.invariant-loop-argument
invariant-loop-argument l = record {
  whole : (h : Head) × (type_of l.t ≡ app h (arguments_of (types_of l.argument-items)));
  done : Lowers (λ x. has_in_any x (arguments_of (take l.argument-index (types_of l.argument-items)))) l.level l.initial.self l.self;
  continued : Continues l.initial.self l.self;
}
