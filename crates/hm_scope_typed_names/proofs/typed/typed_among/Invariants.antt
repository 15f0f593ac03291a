use Rattle.std.proofs.Common.{map, take}
use Rattle.std.specs.List.{AllZip, filter}
use Rattle.hm_scope_typed_names.specs.Typed.{IsTypedName, begins}
use Rattle.hm_scope_typed_names.proofs.typed.typed_among.Given as goal

abbrev pub invariant-bindings : goal.invariant-bindings
invariant-bindings l = AllZip (IsTypedName (map (λ f. f.now) l.interfaces)) (filter (begins l.prefix) (take l.binding-index l.bindings)) l.names.items
