use Rattle.std.proofs.Common.{◌≡◌, drop}
use Rattle.hm_uses.specs.Found.{parameter_uses}
use Rattle.hm_uses_declarations.specs.Walking.{adding, innermost}
use Rattle.hm_uses_declarations.proofs.walking.Walk.parameters.Given as goal

abbrev pub invariant-row : goal.invariant-row
invariant-row l = record {
  state : adding (parameter_uses (innermost l.binders) (drop l.param-index l.params)) l.self ≡ adding (parameter_uses (innermost l.binders) l.params) l.fn.self;
  known : l.self.known ≡ l.fn.self.known;
  groups : l.self.groups ≡ l.fn.self.groups;
}
