use Rattle.std.proofs.Common.{◌≡◌, drop}
use Rattle.hm_syntax.specs.Lists.{types}
use Rattle.hm_syntax.specs.Sizes.{type_size, types_size}
use Rattle.hm_uses.specs.Found.{types_uses}
use Rattle.hm_uses_declarations.specs.Walking.{adding, innermost}
use Rattle.hm_uses_declarations.proofs.walking.Walk.+types.Given as goal

abbrev pub decreases-type_uses : goal.decreases-type_uses
decreases-type_uses l = type_size l.ty.now

abbrev pub decreases-type_row : goal.decreases-type_row
decreases-type_row l = types_size (types l.row.now)

abbrev pub invariant-type_row-row : goal.invariant-type_row-row
invariant-type_row-row l = record {
  state : adding (types_uses l.fn.self.known (innermost l.binders) (types (drop l.ty-index l.row))) l.self ≡ adding (types_uses l.fn.self.known (innermost l.binders) (types l.row)) l.fn.self;
  known : l.self.known ≡ l.fn.self.known;
  groups : l.self.groups ≡ l.fn.self.groups;
}
