-- Worked examples of cores: what a name has in each core of a module, and what it hasn't.
use Rattle.std.specs.Prelude.{◌≡◌, List, [], ◌∷◌, Some, codes, false}
use Rattle.hm_types.specs.declared.Entity.{Entity}
use Rattle.hm_types.specs.Interfaces.{Exports as Interface}
use Rattle.hm_syntax.specs.Names.{Identifier}
use Rattle.hm_syntax.specs.Trees.{TypeTree, TypeTrees, clause, constructor_type, list_type, more_types, no_patterns, no_types, tuple_type, unit_type}
use Rattle.hm_syntax.specs.declared.ast.Module.{Module}
use Rattle.hm_names.specs.Cores.{IsCore}
use Rattle.hm_names.specs.Entities.{named}
use Rattle.hm_names.specs.declared.namespace.Namespace.TheVariants.{Types}
use Rattle.hm_names.specs.ModuleCores.{ModuleCore}
use Rattle.hm_names.specs.Scope.{Means}
use Rattle.hm_names.specs.Types.{synonym_of}
use Rattle.hm_names.specs.Worked.{a_module, at, is, one, prelude_alone, swap, x}
use Rattle.hm_uses.specs.declared.name_kind.NameKind.TheVariants.{Variable}
use Rattle.hm_uses.specs.Uses.{an_entity, local_variable}
use Rattle.hm_uses.specs.Worked.{shadowing, var}
use Rattle.hm_uses_cores.specs.CoreTypes.{IsTypeThere, Synonyms}
use Rattle.hm_uses_cores.specs.Laws.{HasThere}

-- module A where { f x = \x -> x }: in a core, the last x is the lambda's, and not the clause's
abbrev pub InnerRow : Type 0
InnerRow = (c : ModuleCore) → IsCore shadowing prelude_alone c → HasThere shadowing c (at 30 x) Variable false (local_variable 1 25)

abbrev pub OuterRow : Type 0
OuterRow = (c : ModuleCore) → IsCore shadowing prelude_alone c → ¬ (HasThere shadowing c (at 30 x) Variable false (local_variable 1 20))

-- module A where { x = 1 ; y = x }, without an interface: in a core, the last x is A.x
abbrev pub names_x : Module
names_x = a_module (clause (at 18 x) no_patterns one ∷ clause (at 26 (codes "y")) no_patterns (is (var 30 x)) ∷ [])

abbrev pub EntityRow : Type 0
EntityRow = (c : ModuleCore) → IsCore names_x [] c → HasThere names_x c (at 30 x) Variable false (an_entity (named (codes "A") x))

-- type P b a = (a, b): in a core, P () [()] is ([()], ()), and not ((), [()])
abbrev pub of_two : TypeTree → TypeTree → TypeTrees
of_two t u = more_types t (more_types u no_types)

abbrev pub IsP : Module → List Interface → Synonyms → Identifier → Type 0
IsP m fs s n = (e : Entity) × (Means m fs Types n e × (s e ≡ Some (synonym_of (at 24 (codes "b") ∷ at 26 (codes "a") ∷ []) swap)))

abbrev pub ExpandedRow : Type 0
ExpandedRow = (m : Module) (fs : List Interface) (s : Synonyms) (n : Identifier) → IsP m fs s n → IsTypeThere m fs s (constructor_type n (of_two unit_type (list_type unit_type))) (tuple_type (of_two (list_type unit_type) unit_type))

abbrev pub OtherOrderRow : Type 0
OtherOrderRow = (m : Module) (fs : List Interface) (s : Synonyms) (n : Identifier) → IsP m fs s n → ¬ (IsTypeThere m fs s (constructor_type n (of_two unit_type (list_type unit_type))) (tuple_type (of_two unit_type (list_type unit_type))))
