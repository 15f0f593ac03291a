-- A name that isn't in scope (Report 1.4, 5.5.1).
use Rattle.std.specs.Prelude.{◌≡◌, ℕ, List, Option, None, Some, Contains}
use Rattle.hm_lex.specs.declared.token.Place.{Place}
use Rattle.hm_types.specs.Interfaces.{Exports as Interface}
use Rattle.hm_syntax.specs.Lists.{declarations}
use Rattle.hm_syntax.specs.Names.{Identifier}
use Rattle.hm_syntax.specs.declared.ast.Module.{Module}
use Rattle.hm_names.specs.Scope.{IsUnbound}
use Rattle.hm_names.specs.declared.namespace.Namespace.{Namespace}
use Rattle.hm_names.specs.declared.namespace.Namespace.TheVariants.{Types, Constructors, Values}
use Rattle.hm_uses.specs.Mentions.{Mention, declarations_mentions}
use Rattle.hm_uses.specs.declared.name_kind.NameKind.{NameKind}
use Rattle.hm_uses.specs.declared.name_kind.NameKind.TheVariants.{Variable, Constructor, TypeVariable, TypeConstructor, ModuleName}

-- the namespace in which a name of this kind is looked up
abbrev pub space_of : NameKind → Option Namespace
space_of Variable = Some Values
space_of Constructor = Some Constructors
space_of TypeVariable = None
space_of TypeConstructor = Some Types
space_of ModuleName = None

-- the name without a qualifier at a place
abbrev pub name_at : Place → List ℕ → Identifier
name_at p x = record { qualifier = None; text = x; line = p.line; column = p.column }

-- the declarations of the module have the name x at this place, without a qualifier. It is looked up in this namespace, and nothing in the scope of the
-- module has it
pub record IsMissing (m : Module) (fs : List Interface) (p : Place) (s : Namespace) (x : List ℕ) : Type 0 where
  pub mention : Mention
  pub written : Contains (declarations_mentions (declarations m.decls)) mention
  pub kind_is : space_of mention.kind ≡ Some s
  pub name_is : mention.name ≡ name_at p x
  pub unbound : IsUnbound m fs s (name_at p x)
