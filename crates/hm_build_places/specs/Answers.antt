-- What is at a place: what the names there mean, where they are bound, and their types.
use Rattle.std.specs.Prelude.{◌≡◌, ℕ, zero, suc, ◌+◌, ◌-◌, ◌<◌, ◌≤◌, ◌⊎◌, true, List, [], ◌∷◌, ◌++◌, Option, Some, None, All, length, slice_index, take}
use Rattle.std.specs.Fmt.{is_char_start}
use Rattle.std.specs.List.{filter}
use Rattle.hm_lex.specs.declared.token.Place.{Place}
use Rattle.hm_messages_excerpts.specs.Columns.{characters}
use Rattle.hm_messages_excerpts.specs.Excerpts.{IsPlaceIn, IsRestOfLine}
use Rattle.hm_messages_json.specs.Positions.{IsRangeAt}
use Rattle.hm_messages_json.specs.declared.message.Range.{Range}
use Rattle.hm_run_sources.specs.declared.status.Status.{Status}
use Rattle.hm_run_sources.specs.declared.status.Status.TheVariants.{Good, Faulty}
use Rattle.hm_types.specs.declared.Entity.{Entity}
use Rattle.hm_types.specs.StandardPrelude.{prelude_interface}
use Rattle.hm_uses.specs.Uses.{AreUses, Sense, UseOf, local_variable, type_variable, an_entity, a_module, a_prefix, unbound, ambiguous}
use Rattle.hm_uses.specs.declared.name_kind.NameKind.{NameKind}
use Rattle.hm_uses_places.specs.Declarations.{Declares, IsDeclaredAt}
use Rattle.hm_uses_places.specs.Places.{is_on}
use Rattle.hm_verdicts.specs.Reports.{name_of_module}
use Rattle.hm_verdicts.specs.Sets.{module_at}
use Rattle.hm_build_place_texts.specs.Facts.{Binding, Facts, Item, NameFacts, Site, at_site, in_module, in_skipped, is_ambiguous, is_prefix, is_unbound, a_name}
use Rattle.hm_build_place_texts.specs.Formats.{text_in}
use Rattle.hm_build_place_texts.specs.declared.texts.PlaceFormat.{PlaceFormat}
use Rattle.hm_build_places.specs.Typed.{IsDeclaredType}
use Rattle.hm_build_places.specs.TypesAt.{IsTypeHere, place_of, qualifier_text}
use Rattle.hm_build_places.specs.Known.{HasNoNumber, HasNoUses, HasUses, IsNumberOf, IsSiteOf, Known, file_text, origin_of, text_of}

-- Where a name is bound

-- at this place of the source
abbrev pub IsBoundAt : Known → ℕ → Place → Binding → Type 0
IsBoundAt k source place b = (s : Site) × (IsSiteOf k source place s × (b ≡ at_site s))

-- module number i declares the entity at this place
pub record DeclaresAt (k : Known) (kind : NameKind) (e : Entity) (i : ℕ) (place : Place) : Type 0 where
  pub uses : List UseOf
  pub are : HasUses k i uses
  pub at : IsDeclaredAt kind e uses place

-- module number i has no name that declares the entity
abbrev pub DeclaresNowhere : Known → NameKind → Entity → ℕ → Type 0
DeclaresNowhere k kind e i = HasNoUses k i ⊎ ((us : List UseOf) × (HasUses k i us × All (λ u. ¬ (Declares kind e u)) us))

-- an entity is bound in the module that defines it: in that of the sources with its name, at its declaration, else in Prelude
pub data IsEntityBound (k : Known) (kind : NameKind) (e : Entity) (b : Binding) : Type 0 where
  declared : {i : ℕ} {place : Place} → IsNumberOf k e.«module» i → DeclaresAt k kind e i place → IsBoundAt k (origin_of k i) place b → IsEntityBound k kind e b
  undeclared : {i : ℕ} → IsNumberOf k e.«module» i → DeclaresNowhere k kind e i → b ≡ in_module e.«module» → IsEntityBound k kind e b
  elsewhere : HasNoNumber k e.«module» → b ≡ in_module e.«module» → IsEntityBound k kind e b

-- a module is bound at the name in its header
pub data IsModuleBound (k : Known) (x : List ℕ) (b : Binding) : Type 0 where
  given : {i : ℕ} → IsNumberOf k x i → IsBoundAt k (origin_of k i) (place_of (module_at k.set i).header.name) b → IsModuleBound k x b
  elsewhere : HasNoNumber k x → b ≡ in_module x → IsModuleBound k x b

-- where a name of this kind in module number i is bound, by what it means
abbrev pub IsBound : Known → ℕ → NameKind → Sense → Binding → Type 0
IsBound k i kind (local_variable l c) b = IsBoundAt k (origin_of k i) (record { line = l; column = c }) b
IsBound k i kind (type_variable l c) b = IsBoundAt k (origin_of k i) (record { line = l; column = c }) b
IsBound k i kind (an_entity e) b = IsEntityBound k kind e b
IsBound k i kind (a_module x) b = IsModuleBound k x b
IsBound k i kind (a_prefix x) b = b ≡ is_prefix
IsBound k i kind unbound b = b ≡ is_unbound
IsBound k i kind ambiguous b = b ≡ is_ambiguous

-- The facts of a use

-- the range that a message marks at the place, if the place is in the source
abbrev pub IsRangeIn : List ℕ → Place → Option Range → Type 0
IsRangeIn source place (Some r) = IsRangeAt source place r.start r.end
IsRangeIn source place None = ¬ (IsPlaceIn source place)

pub record IsUse (k : Known) (i : ℕ) (u : UseOf) (n : NameFacts) : Type 0 where
  pub kind_is : n.kind ≡ u.mention.kind
  pub text_is : n.text ≡ qualifier_text u.mention.name.qualifier ++ u.mention.name.text
  pub range_is : IsRangeIn (text_of k (origin_of k i)) (place_of u.mention.name) n.range
  pub is_bound : IsBound k i u.mention.kind u.sense n.binding
  pub is_typed : IsDeclaredType k u.mention.kind u.sense n.declared
  pub is_here : IsTypeHere k i u.mention u.sense n.here

-- the item of a use
abbrev pub IsUseItem : Known → ℕ → UseOf → List Item → Type 0
IsUseItem k i u items = (n : NameFacts) × (IsUse k i u n × (items ≡ a_name n ∷ []))

-- what the elements of a list have, in order
abbrev pub AreParts : {X Y : Type 0} → (X → List Y → Type 0) → List X → List Y → Type 0
AreParts {X = X} {Y = Y} P [] ys = ys ≡ []
AreParts {X = X} {Y = Y} P (x ∷ xs) ys = (first : List Y) × ((others : List Y) × (P x first × (AreParts P xs others × (ys ≡ first ++ others))))

-- what the first n numbers have, in order
abbrev pub AreFirstParts : {Y : Type 0} → (ℕ → List Y → Type 0) → ℕ → List Y → Type 0
AreFirstParts {Y = Y} P zero ys = ys ≡ []
AreFirstParts {Y = Y} P (suc n) ys = (before : List Y) × ((last : List Y) × (AreFirstParts P n before × (P n last × (ys ≡ before ++ last))))

-- What is at a place

-- those of the uses that have a name at the place
abbrev pub uses_on : Place → List UseOf → List UseOf
uses_on place us = filter (λ u. is_on place u.mention.name) us

-- a name in a module whose imports aren't all good
abbrev pub skipped_items : List ℕ → List UseOf → List Item
skipped_items name [] = []
skipped_items name (u ∷ us) = in_skipped name ∷ []

-- what is at the place in module number i of the source. For a skipped module it is known only whether there is a name
pub data HasItems (k : Known) (source : ℕ) (place : Place) (i : ℕ) (items : List Item) : Type 0 where
  of_other : ¬ (origin_of k i ≡ source) → items ≡ [] → HasItems k source place i items
  of_uses : {us : List UseOf} → origin_of k i ≡ source → HasUses k i us → AreParts (IsUseItem k i) (uses_on place us) items → HasItems k source place i items
  of_skipped : {us : List UseOf} → origin_of k i ≡ source → HasNoUses k i → AreUses (module_at k.set i) (prelude_interface ∷ []) us → items ≡ skipped_items (name_of_module k.set i) (uses_on place us) → HasItems k source place i items

-- the number of bytes before a character of a text, which has so many characters before it; that of all bytes if the text has no more characters
pub record IsByteOf (text : List ℕ) (count bytes : ℕ) : Type 0 where
  pub within : bytes ≤ length text
  pub starts : bytes < length text → is_char_start (slice_index text bytes) ≡ true
  pub counted : bytes < length text → characters (take bytes text) ≡ count
  pub ends : bytes ≡ length text → characters text ≤ count

abbrev pub line_start : ℕ → Place
line_start line = record { line = line; column = 1 }

abbrev pub with_column : ℕ → ℕ → Place
with_column line column = record { line = line; column = column }

-- what is at this line and column of the source. The column counts characters, as that of a message
pub data AreFound (k : Known) (source line column : ℕ) (items : List Item) : Type 0 where
  on_line : {rest : List ℕ} {bytes : ℕ} → IsRestOfLine (text_of k source) (line_start line) rest → IsByteOf rest (column - 1) bytes
      → AreFirstParts (HasItems k source (with_column line (bytes + 1))) (length k.set.modules) items → AreFound k source line column items
  no_line : (IsPlaceIn (text_of k source) (line_start line) → ⊥) → items ≡ [] → AreFound k source line column items

abbrev pub facts_at : Known → ℕ → ℕ → ℕ → List Item → Facts
facts_at k source line column items = record { file = file_text k source; line = line; column = column; items = items }

-- the status of a place with a name, and that of one without
abbrev pub status_of : List Item → Status
status_of [] = Faulty
status_of (i ∷ is) = Good

-- the status and the text for a place of a judged set
pub record IsPlaceAnswer (k : Known) (format : PlaceFormat) (source line column : ℕ) (status : Status) (text : List ℕ) : Type 0 where
  pub items : List Item
  pub found : AreFound k source line column items
  pub status_is : status ≡ status_of items
  pub text_is : text ≡ text_in format (facts_at k source line column items)
