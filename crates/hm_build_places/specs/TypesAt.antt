-- The types of names at their places, and of names that no interface has.
use Rattle.std.specs.Prelude.{◌≡◌, ℕ, List, [], ◌++◌, Option, Some, None, codes}
use Rattle.hm_lex.specs.declared.token.Place.{Place}
use Rattle.hm_syntax.specs.Names.{Identifier}
use Rattle.hm_types.specs.declared.Entity.{Entity}
use Rattle.hm_types.specs.Interfaces.{Exports as Interface}
use Rattle.hm_uses.specs.Mentions.{Mention}
use Rattle.hm_uses.specs.Uses.{Sense, local_variable, type_variable, an_entity, a_module, a_prefix, unbound, ambiguous}
use Rattle.hm_uses.specs.declared.name_kind.NameKind.{NameKind}
use Rattle.hm_uses.specs.declared.name_kind.NameKind.TheVariants.{Variable, Constructor, TypeVariable, TypeConstructor, ModuleName}
use Rattle.hm_messages_here.specs.TypesHere.{HasSchemeHere, HasTypeAt, IsWithout}
use Rattle.hm_verdicts.specs.Reports.{name_of_module}
use Rattle.hm_verdicts.specs.Sets.{imports_of}
use Rattle.hm_verdicts.specs.Verdicts.{ArePublished}
use Rattle.hm_build_place_texts.specs.Facts.{AtPlace, InModule, Owner, TypeThere, no_type, not_found, of_local, of_use, principal}
use Rattle.hm_build_places.specs.Known.{IsNumberOf, Known, origin_of, text_of}

abbrev pub place_of : Identifier → Place
place_of n = record { line = n.line; column = n.column }

abbrev pub qualifier_text : Option (List ℕ) → List ℕ
qualifier_text None = []
qualifier_text (Some q) = q ++ codes "."

-- the source in which the types of module number i are read: its own, or that with the hole in place of some definitions. The interfaces are those of its imports
pub record IsRead (k : Known) (i : ℕ) (whole : List ℕ) (interfaces : List Interface) : Type 0 where
  pub without : IsWithout (text_of k (origin_of k i)) whole
  pub published : ArePublished k.status (imports_of k.set i) interfaces

-- a name of module number i has this type at its place, in the definition with this name and type
pub record IsTypedAt (k : Known) (i : ℕ) (m : Mention) (definition own here : List ℕ) : Type 0 where
  pub whole : List ℕ
  pub interfaces : List Interface
  pub read : IsRead k i whole interfaces
  pub typed : HasTypeAt whole (name_of_module k.set i) interfaces (place_of m.name) (qualifier_text m.name.qualifier ++ m.name.text) definition own here

-- the definition that a name is in, with its type. A pattern binding has no name
pub data IsOwner (definition own : List ℕ) (d : Option Owner) : Type 0 where
  of_name : ¬ (definition ≡ codes "()") → d ≡ Some (record { name = definition; own = own }) → IsOwner definition own d
  of_pattern : definition ≡ codes "()" → d ≡ None → IsOwner definition own d

-- a name of module number i has this type at its place, in this definition
pub record IsTypeThere (k : Known) (i : ℕ) (m : Mention) (t : TypeThere) : Type 0 where
  pub definition : List ℕ
  pub own : List ℕ
  pub typed : IsTypedAt k i m definition own t.text
  pub owned : IsOwner definition own t.owner

-- the type of a local variable
pub data IsLocalType (k : Known) (i : ℕ) (m : Mention) (h : AtPlace) : Type 0 where
  typed : {t : TypeThere} → IsTypeThere k i m t → h ≡ of_local t → IsLocalType k i m h
  unknown : h ≡ not_found → IsLocalType k i m h

-- the type of an entity's name at its place. Names outside of definitions have none
pub data IsUseType (k : Known) (i : ℕ) (m : Mention) (h : AtPlace) : Type 0 where
  typed : {t : TypeThere} → IsTypeThere k i m t → h ≡ of_use t → IsUseType k i m h
  unknown : h ≡ no_type → IsUseType k i m h

-- variables and constructors have types
abbrev pub IsEntityHere : Known → ℕ → Mention → NameKind → AtPlace → Type 0
IsEntityHere k i m Variable h = IsUseType k i m h
IsEntityHere k i m Constructor h = IsUseType k i m h
IsEntityHere k i m TypeVariable h = h ≡ no_type
IsEntityHere k i m TypeConstructor h = h ≡ no_type
IsEntityHere k i m ModuleName h = h ≡ no_type

-- the type of a name of module number i at its place
abbrev pub IsTypeHere : Known → ℕ → Mention → Sense → AtPlace → Type 0
IsTypeHere k i m (local_variable l c) h = IsLocalType k i m h
IsTypeHere k i m (an_entity e) h = IsEntityHere k i m m.kind h
IsTypeHere k i m (type_variable l c) h = h ≡ no_type
IsTypeHere k i m (a_module x) h = h ≡ no_type
IsTypeHere k i m (a_prefix x) h = h ≡ no_type
IsTypeHere k i m unbound h = h ≡ no_type
IsTypeHere k i m ambiguous h = h ≡ no_type

-- a variable of the module that declares an entity has the entity's scheme with this text
pub record HasOwnScheme (k : Known) (e : Entity) (text : List ℕ) : Type 0 where
  pub number : ℕ
  pub named : IsNumberOf k e.«module» number
  pub whole : List ℕ
  pub interfaces : List Interface
  pub read : IsRead k number whole interfaces
  pub scheme : HasSchemeHere whole (name_of_module k.set number) interfaces (e.«module» ++ (codes "." ++ e.name)) text

-- an entity's type in its module, or why none is found
pub data IsOwnType (k : Known) (e : Entity) (unknown t : InModule) : Type 0 where
  found : {shown : List ℕ} → HasOwnScheme k e shown → t ≡ principal shown → IsOwnType k e unknown t
  unfound : t ≡ unknown → IsOwnType k e unknown t
