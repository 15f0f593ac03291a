use Rattle.std.proofs.Common.{◌≡◌, take}
use Rattle.hm_types.specs.declared.Head.{Head}
use Rattle.hm_types.specs.Types.{App as app}
use Rattle.hm_types.specs.Monotypes.{size, arguments_of}
use Rattle.hm_types.specs.Numbers.{Numbers}
use Rattle.hm_types.specs.Shape.{type_of, types_of}
use Rattle.hm_unify.specs.Levels.{deeper_after_all}
use Rattle.hm_unify.specs.Steps.{equations_in}
use Rattle.hm_unify.proofs.deeper.+collect_deeper.Given as goal

abbrev pub decreases-collect_deeper : goal.decreases-collect_deeper
decreases-collect_deeper l = size (type_of l.t.now)

abbrev pub invariant-loop-argument : goal.invariant-loop-argument
invariant-loop-argument l = record {
  whole : (h : Head) × (type_of l.t ≡ app h (arguments_of (types_of l.argument-items)));
  placed : Numbers l.seen.places l.seen.numbers.items;
  done : l.seen.numbers.items ≡ deeper_after_all (equations_in l.bindings) l.count l.initial.seen.numbers.items (arguments_of (take l.argument-index (types_of l.argument-items)));
}
