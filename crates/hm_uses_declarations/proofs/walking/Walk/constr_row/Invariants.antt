use Rattle.std.proofs.Common.{◌≡◌, drop}
use Rattle.hm_syntax.specs.Lists.{constructors}
use Rattle.hm_uses.specs.Found.{declared_constructors_uses}
use Rattle.hm_uses_declarations.specs.Walking.{adding, innermost}
use Rattle.hm_uses_declarations.proofs.walking.Walk.constr_row.Given as goal

abbrev pub invariant-row : goal.invariant-row
invariant-row l = record {
  state : adding (declared_constructors_uses l.fn.self.known (innermost l.binders) (constructors (drop l.constr-index l.row))) l.self ≡ adding (declared_constructors_uses l.fn.self.known (innermost l.binders) (constructors l.row)) l.fn.self;
  known : l.self.known ≡ l.fn.self.known;
  groups : l.self.groups ≡ l.fn.self.groups;
}
