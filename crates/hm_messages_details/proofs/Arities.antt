-- The number of arguments that a constructor takes.
use Rattle.std.proofs.Common.{◌≡◌, ◌∙◌, ℕ, List, Option, Some, None, option_map, refl}
use Rattle.std.specs.Prelude.{IfSome}
use Rattle.hm_types.specs.declared.Entity.{Entity}
use Rattle.hm_types.specs.Interfaces.{Exports as Interface}
use Rattle.hm_syntax.specs.Names.{Identifier}
use Rattle.hm_syntax.specs.declared.ast.Module.{Module}
use Rattle.hm_names.specs.Bindings.{IsScopeOf, Pair}
use Rattle.hm_names.specs.Described.{ConstructorDescription, constructor_meant}
use Rattle.hm_names.specs.Found.{arity_among}
use Rattle.hm_names.specs.NodeFaults.{arity_of_constructor}
use Rattle.hm_names.specs.Scope.{Means}
use Rattle.hm_names.specs.Special.{Special, special_of, special_arity}
use Rattle.hm_names.specs.declared.namespace.Namespace.TheVariants.{Constructors}
use Rattle.hm_scope_tables.specs.KnownTables.{AreTablesOf, KnownTables}
use Rattle.hm_messages_details.specs.Counts.{ConstructorTakes, a_special, in_scope}

some_injective : {X : Type 0} {x y : X} → Some x ≡ Some y → x ≡ y
some_injective e = cc

described : (m : Module) (fs : List Interface) (n : Identifier) (e : Entity) (k : ℕ) (r : Option ConstructorDescription) → Means m fs Constructors n e
    → constructor_meant m.header.name.text m.decls fs e ≡ r → Some k ≡ arity_of_constructor r → ConstructorTakes m fs n k
described m fs n e k None means meant is = absurd (cc)
described m fs n e k (Some d) means meant is = in_scope means meant (some_injective is)

pub scoped : (m : Module) (n : Identifier) (pairs : List Pair) (tables : KnownTables) (e : Entity) (o : Option ℕ)
    → ((fs : List Interface) → IsScopeOf m fs pairs → Means m fs Constructors n e) → o ≡ arity_among tables.constructors e
    → IfSome o (λ takes. (fs : List Interface) → IsScopeOf m fs pairs → AreTablesOf m fs tables → ConstructorTakes m fs n takes)
scoped m n pairs tables e None means is = tt
scoped m n pairs tables e (Some k) means is = λ fs scope known.
    described m fs n e k (constructor_meant m.header.name.text m.decls fs e) (means fs scope) refl (is ∙ known.constructors.arities e)

special : (m : Module) (fs : List Interface) (n : Identifier) (k : ℕ) (r : Option Special) → special_of n ≡ r → Some k ≡ option_map special_arity r → ConstructorTakes m fs n k
special m fs n k None found is = absurd (cc)
special m fs n k (Some s) found is = a_special found (some_injective is)

pub special_takes : (m : Module) (fs : List Interface) (n : Identifier) (k : ℕ) → Some k ≡ option_map special_arity (special_of n) → ConstructorTakes m fs n k
special_takes m fs n k is = special m fs n k (special_of n) refl is
