-- The names that mean one entity in a scope and begin with a prefix, with their types.
use Rattle.std.specs.Prelude.{◌≡◌, ◌↔◌, ◌==◌, ℕ, Bool, true, List, ◌++◌, Option, None, Some, Contains, codes, option_map, option_to_list, string_bytes}
use Rattle.std.specs.List.{AllZip, starts_with}
use Rattle.hm_names.specs.Bindings.{Pair}
use Rattle.hm_names.specs.declared.namespace.Namespace.TheVariants.{Constructors, Values}
use Rattle.hm_scope_names.specs.Meant.{AreApart, IsMeant}
use Rattle.hm_scope_typed_names.specs.declared.typed.TypedName.{TypedName}
use Rattle.hm_syntax.specs.declared.ast.Module.{Module}
use Rattle.hm_types.specs.Interfaces.{Exports as Interface}
use Rattle.hm_types.specs.Schemes.{TypeScheme}
use Rattle.hm_types.specs.declared.entries.ConstructorEntry.{ConstructorEntry}
use Rattle.hm_types.specs.declared.entries.ValueEntry.{ValueEntry}
use Rattle.hm_types_display.specs.Texts.{scheme_text_of}

-- a name with its qualifier, as it is written
abbrev pub written_text : Option (List ℕ) → List ℕ → List ℕ
written_text None x = x
written_text (Some q) x = q ++ (codes "." ++ x)

-- the name of the pair begins with the prefix
abbrev pub begins : List ℕ → Pair → Bool
begins prefix p = starts_with (λ a b. a == b) (written_text p.qualifier p.text) prefix

-- the interface has this scheme for the entity of the pair, under its name
pub data HasScheme (f : Interface) (p : Pair) (s : TypeScheme) : Type 0 where
  of_variable : {v : ValueEntry} → p.space ≡ Values → Contains f.values v → v.name ≡ p.text → v.entity ≡ p.entity → s ≡ v.scheme → HasScheme f p s
  of_constructor : {c : ConstructorEntry} → p.space ≡ Constructors → Contains f.constructors c → c.name ≡ p.text → c.entity ≡ p.entity → s ≡ c.scheme → HasScheme f p s

-- one of the interfaces has it
pub record IsSchemeIn (fs : List Interface) (p : Pair) (s : TypeScheme) : Type 0 where
  pub interface : Interface
  pub among : Contains fs interface
  pub has : HasScheme interface p s

-- the text of such a scheme, or none if no interface has one
abbrev pub HasType : List Interface → Pair → Option (List ℕ) → Type 0
HasType fs p None = (s : TypeScheme) → ¬ (IsSchemeIn fs p s)
HasType fs p (Some text) = (s : TypeScheme) × (IsSchemeIn fs p s × (text ≡ scheme_text_of s))

-- the name of the pair, with its type by these interfaces
pub record IsTypedName (fs : List Interface) (p : Pair) (n : TypedName) : Type 0 where
  pub space_is : n.space ≡ p.space
  pub text_is : string_bytes n.text ≡ written_text p.qualifier p.text
  pub has_type : HasType fs p (option_map string_bytes n.scheme)

-- exactly the names that mean one entity in the scope of the module m, for the interfaces fs, and begin with the prefix. Each is there once
pub record AreBegun (m : Module) (fs : List Interface) (prefix : List ℕ) (pairs : List Pair) : Type 0 where
  pub exact : (p : Pair) → Contains pairs p ↔ (IsMeant m fs p × (begins prefix p ≡ true))
  pub once : AreApart pairs

-- these names with their types, by the interfaces fs and that of the module itself, if it has one
pub record AreTypedNames (m : Module) (fs : List Interface) (own : Option Interface) (prefix : List ℕ) (names : List TypedName) : Type 0 where
  pub pairs : List Pair
  pub are : AreBegun m fs prefix pairs
  pub each : AllZip (IsTypedName (fs ++ option_to_list own)) pairs names
