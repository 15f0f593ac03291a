-- The entities that pairs of a scope have under a name. No public clause names these.
use Rattle.std.specs.Prelude.{◌≡◌}
use Rattle.hm_types.specs.declared.Entity.{Entity}
use Rattle.hm_syntax.specs.Names.{Identifier}
use Rattle.hm_names.specs.declared.namespace.Namespace.{Namespace}
use Rattle.hm_names.specs.Bindings.{Pair}

-- the pair has this entity under this name
pub record IsCandidate (s : Namespace) (n : Identifier) (p : Pair) (e : Entity) : Type 0 where
  pub space : p.space ≡ s
  pub qualifier : p.qualifier ≡ n.qualifier
  pub text : p.text ≡ n.text
  pub entity : p.entity ≡ e
