use Rattle.std.proofs.Common.{◌≡◌, ℕ, List, take, map}
use Rattle.hm_types.specs.Types.{App as app}
use Rattle.hm_types.specs.Monotypes.{size, arguments_of}
use Rattle.hm_types.specs.Shape.{type_of, types_of}
use Rattle.hm_types.specs.Substitution.{substitute}
use Rattle.hm_types.specs.Schemes.{numbering}
use Rattle.hm_types.specs.Numbers.{Numbers}
use Rattle.hm_types_subsumption.proofs.numbering.+renumber.Given as goal

abbrev pub decreases-renumber : goal.decreases-renumber
decreases-renumber l = size (type_of l.t.now)

abbrev pub invariant-loop-argument : goal.invariant-loop-argument
invariant-loop-argument l = record {
  whole : type_of l.t ≡ app l.head (arguments_of (types_of l.row));
  done : (xs : List ℕ) → Numbers l.places xs → types_of l.numbered.items ≡ map (substitute (numbering xs)) (take l.argument-index (types_of l.row));
}
