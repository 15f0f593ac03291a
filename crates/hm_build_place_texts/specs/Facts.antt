-- What is at a place of a source.
use Rattle.std.specs.Prelude.{ℕ, List, Option, map, option_map, string_bytes}
use Rattle.hm_messages_json.specs.declared.message.Position.{Position}
use Rattle.hm_messages_json.specs.declared.message.Range.{Range}
use Rattle.hm_uses.specs.declared.name_kind.NameKind.{NameKind}
use Rattle.hm_build_place_texts.specs.declared.found.SourceSpot.{SourceSpot}
use Rattle.hm_build_place_texts.specs.declared.found.Bound.{Bound}
use Rattle.hm_build_place_texts.specs.declared.found.Bound.TheVariants as bound_cases
use Rattle.hm_build_place_texts.specs.declared.found.DeclaredType.{DeclaredType}
use Rattle.hm_build_place_texts.specs.declared.found.DeclaredType.TheVariants as declared_cases
use Rattle.hm_build_place_texts.specs.declared.found.Definition.{Definition}
use Rattle.hm_build_place_texts.specs.declared.found.PlaceType.{PlaceType}
use Rattle.hm_build_place_texts.specs.declared.found.HereType.{HereType}
use Rattle.hm_build_place_texts.specs.declared.found.HereType.TheVariants as here_cases
use Rattle.hm_build_place_texts.specs.declared.found.PlaceName.{PlaceName}
use Rattle.hm_build_place_texts.specs.declared.found.PlaceItem.{PlaceItem}
use Rattle.hm_build_place_texts.specs.declared.found.PlaceItem.TheVariants as item_cases
use Rattle.hm_build_place_texts.specs.declared.found.PlaceFound.{PlaceFound}

-- a file with the position of a place, which a place outside of the source has not
pub record Site : Type 0 where
  pub file : List ℕ
  pub position : Option Position

-- where a name is bound: at a place, in a module that isn't one of the sources, or nowhere
pub data Binding : Type 0 where
  at_site : Site → Binding
  in_module : List ℕ → Binding
  is_prefix : Binding
  is_unbound : Binding
  is_ambiguous : Binding

-- the type of a name in its module, or the module's name and why no type is found
pub data InModule : Type 0 where
  no_declared : InModule
  principal : List ℕ → InModule
  not_exported : List ℕ → InModule
  of_bad_module : List ℕ → InModule

-- a definition with its type
pub record Owner : Type 0 where
  pub name : List ℕ
  pub own : List ℕ

-- a type at a place, with the definition that it shares variables with
pub record TypeThere : Type 0 where
  pub text : List ℕ
  pub owner : Option Owner

-- the type of a name at its place. That no type of a local variable is found is a fact of its own
pub data AtPlace : Type 0 where
  no_type : AtPlace
  of_local : TypeThere → AtPlace
  of_use : TypeThere → AtPlace
  not_found : AtPlace

-- a name as it is written, with its range
pub record NameFacts : Type 0 where
  pub kind : NameKind
  pub text : List ℕ
  pub range : Option Range
  pub binding : Binding
  pub declared : InModule
  pub here : AtPlace

-- a name, or one of a skipped module with this name
pub data Item : Type 0 where
  a_name : NameFacts → Item
  in_skipped : List ℕ → Item

-- the place, and what is there
pub record Facts : Type 0 where
  pub file : List ℕ
  pub line : ℕ
  pub column : ℕ
  pub items : List Item

-- The facts of the program's values

abbrev pub site_of : SourceSpot → Site
site_of s = record { file = string_bytes s.file; position = s.position }

abbrev pub binding_of : Bound → Binding
binding_of (bound_cases.At s) = at_site (site_of s)
binding_of (bound_cases.In name) = in_module (string_bytes name)
binding_of bound_cases.Prefix = is_prefix
binding_of bound_cases.Nowhere = is_unbound
binding_of bound_cases.Ambiguous = is_ambiguous

abbrev pub declared_of : DeclaredType → InModule
declared_of declared_cases.Untyped = no_declared
declared_of (declared_cases.Principal text) = principal (string_bytes text)
declared_of (declared_cases.Hidden name) = not_exported (string_bytes name)
declared_of (declared_cases.NotGood name) = of_bad_module (string_bytes name)

abbrev pub owner_of : Definition → Owner
owner_of d = record { name = string_bytes d.name; own = string_bytes d.own }

abbrev pub there_of : PlaceType → TypeThere
there_of t = record { text = string_bytes t.text; owner = option_map owner_of t.definition }

abbrev pub here_of : HereType → AtPlace
here_of here_cases.Untyped = no_type
here_of (here_cases.Local t) = of_local (there_of t)
here_of (here_cases.Used t) = of_use (there_of t)
here_of here_cases.Unknown = not_found

abbrev pub name_of : PlaceName → NameFacts
name_of n = record { kind = n.kind; text = string_bytes n.text; range = n.range; binding = binding_of n.bound; declared = declared_of n.declared; here = here_of n.here }

abbrev pub item_of : PlaceItem → Item
item_of (item_cases.Name n) = a_name (name_of n)
item_of (item_cases.Skipped name) = in_skipped (string_bytes name)

abbrev pub facts_of : PlaceFound → Facts
facts_of f = record { file = string_bytes f.file; line = f.line; column = f.column; items = map item_of f.items.items }
