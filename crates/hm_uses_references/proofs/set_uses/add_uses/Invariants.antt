use Rattle.std.proofs.Common.{◌≡◌, ◌++◌, map}
use Rattle.hm_uses_references.specs.SetNames.{name_in}
use Rattle.hm_uses_references.proofs.set_uses.add_uses.Given as goal

abbrev pub invariant-uses : goal.invariant-uses
invariant-uses l = l.names.items ≡ l.initial.names.items ++ map (name_in l.number l.source) l.yielded
