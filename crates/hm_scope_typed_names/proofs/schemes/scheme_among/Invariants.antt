use Rattle.std.proofs.Common.{map, take}
use Rattle.hm_types.specs.Schemes.{TypeScheme}
use Rattle.hm_scope_typed_names.specs.Typed.{IsSchemeIn}
use Rattle.hm_scope_typed_names.proofs.schemes.scheme_among.Given as goal

abbrev pub invariant-interfaces : goal.invariant-interfaces
invariant-interfaces l = (s : TypeScheme) → ¬ (IsSchemeIn (map (λ f. f.now) (take l.interface-index l.interfaces)) l.binding s)
