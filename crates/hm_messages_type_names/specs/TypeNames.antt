-- The names with which types are shown in a module.
use Rattle.std.specs.Prelude.{◌≡◌, ◌⊎◌, None, List, ℕ, All}
use Rattle.hm_types.specs.declared.Entity.{Entity}
use Rattle.hm_types.specs.Interfaces.{Exports as Interface}
use Rattle.hm_types.specs.StandardPrelude.{prelude_interface}
use Rattle.hm_types_display.specs.Texts.{original_text}
use Rattle.hm_syntax.specs.Names.{Identifier}
use Rattle.hm_syntax.specs.declared.ast.Module.{Module}
use Rattle.hm_names.specs.declared.namespace.Namespace.TheVariants.{Types}
use Rattle.hm_names.specs.Scope.{Means}
use Rattle.hm_messages_types.specs.Shown.{IsName, NamedType}

-- The name without its module means this type in the module m (Report 5.5.2). The types of Prelude are shown bare, and none of them has this name
pub record IsBareName (m : Module) (fs : List Interface) (n : NamedType) : Type 0 where
  pub entity : Entity
  pub name_is : n.name ≡ entity.name
  pub text_is : n.text ≡ original_text entity
  pub written : Identifier
  pub bare : written.qualifier ≡ None
  pub named : written.text ≡ n.name
  pub means : Means m fs Types written entity
  pub no_type : All (λ t. ¬ (t.name ≡ n.name)) prelude_interface.types
  pub no_synonym : All (λ t. ¬ (t.name ≡ n.name)) prelude_interface.synonyms

-- the name is a synonym of the module with this name and interface, or of Prelude, or it is the bare name of a type in it
abbrev pub IsTypeName : Module → List Interface → List ℕ → Interface → NamedType → Type 0
IsTypeName m fs name exports n = IsName name exports n ⊎ IsBareName m fs n
