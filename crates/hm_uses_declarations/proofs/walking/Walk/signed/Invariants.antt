use Rattle.std.proofs.Common.{◌≡◌, drop}
use Rattle.hm_uses.specs.Found.{signed_uses}
use Rattle.hm_uses_declarations.specs.Walking.{adding, home_of}
use Rattle.hm_uses_declarations.proofs.walking.Walk.signed.Given as goal

abbrev pub invariant-row : goal.invariant-row
invariant-row l = record {
  state : adding (signed_uses l.fn.self.known (home_of l.fn.self.groups) (drop l.name-index l.names)) l.self ≡ adding (signed_uses l.fn.self.known (home_of l.fn.self.groups) l.names) l.fn.self;
  known : l.self.known ≡ l.fn.self.known;
  groups : l.self.groups ≡ l.fn.self.groups;
}
