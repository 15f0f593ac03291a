-- The meaning of a name, as the program returns it. No public clause names these.
use Rattle.std.specs.Prelude.{◌≡◌, List}
use Rattle.hm_types.specs.Interfaces.{Exports as Interface}
use Rattle.hm_syntax.specs.Names.{Identifier}
use Rattle.hm_syntax.specs.declared.ast.Module.{Module}
use Rattle.hm_names.specs.declared.namespace.Namespace.{Namespace}
use Rattle.hm_scope_tables.specs.declared.table.Meaning.{Meaning}
use Rattle.hm_scope_tables.specs.declared.table.Meaning.TheVariants.{Unbound, Ambiguous, Entity}
use Rattle.hm_names.specs.Bindings.{MeaningOf, unbound, ambiguous, entity}
use Rattle.hm_names.specs.Scope.{IsUnbound, IsAmbiguous, Means}

abbrev pub IsMeaning : Module → List Interface → Namespace → Identifier → Meaning → Type 0
IsMeaning m fs s n Unbound = IsUnbound m fs s n
IsMeaning m fs s n Ambiguous = IsAmbiguous m fs s n
IsMeaning m fs s n (Entity e) = Means m fs s n e

-- the table returns this meaning
abbrev pub meaning_is : Meaning → MeaningOf → Type 0
meaning_is Unbound m = m ≡ unbound
meaning_is Ambiguous m = m ≡ ambiguous
meaning_is (Entity e) m = m ≡ entity e
