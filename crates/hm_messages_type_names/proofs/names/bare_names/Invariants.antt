use Rattle.std.proofs.Common.{All, List}
use Rattle.hm_types.specs.Interfaces.{Exports as Interfaces}
use Rattle.hm_syntax.specs.declared.ast.Module.{Module as Program}
use Rattle.hm_names.specs.Bindings.{IsScopeOf}
use Rattle.hm_messages_types.specs.Aliases.{alias_of as named_type}
use Rattle.hm_messages_type_names.specs.TypeNames.{IsBareName}
use Rattle.hm_messages_type_names.proofs.names.bare_names.Given as goal

abbrev pub invariant-loop-entity : goal.invariant-loop-entity
invariant-loop-entity l = (m : Program) (fs : List Interfaces) → IsScopeOf m fs l.scope → All (λ a. IsBareName m fs (named_type a)) l.names.items
