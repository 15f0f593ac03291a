-- The JSON object of a place (RFC 8259): its members, in the order of their names.
use Rattle.std.specs.Prelude.{ℕ, List, Option, None, Some, ◌++◌, codes, map}
use Rattle.serde_json.specs.Data.{Data, array, null, string, object, member, no_members}
use Rattle.serde_json.specs.View.{items_of}
use Rattle.serde_json.specs.Written.{compact_text}
use Rattle.hm_messages_json.specs.Objects.{count, optional_data, optional_range, text_data}
use Rattle.hm_messages_json.specs.declared.message.Position.{Position}
use Rattle.hm_build_place_texts.specs.Facts.{AtPlace, Binding, Facts, InModule, Item, NameFacts, Owner, at_site, in_module, in_skipped, is_ambiguous, is_prefix, is_unbound, a_name, no_declared, no_type, not_exported, not_found, of_bad_module, of_local, of_use, principal}
use Rattle.hm_build_place_texts.specs.Prose.{binding_text, hidden_text, kind_text, not_found_text, not_good_text, prose}

-- Where a name is bound

abbrev pub file_in : Binding → Option (List ℕ)
file_in (at_site s) = Some s.file
file_in (in_module name) = None
file_in is_prefix = None
file_in is_unbound = None
file_in is_ambiguous = None

abbrev pub module_in : Binding → Option (List ℕ)
module_in (at_site s) = None
module_in (in_module name) = Some name
module_in is_prefix = None
module_in is_unbound = None
module_in is_ambiguous = None

abbrev pub position_in : Binding → Option Position
position_in (at_site s) = s.position
position_in (in_module name) = None
position_in is_prefix = None
position_in is_unbound = None
position_in is_ambiguous = None

-- with the words of the prose
abbrev pub binding_data : Binding → Data
binding_data b = object (member (codes "file") (text_data (file_in b))
    (member (codes "module") (text_data (module_in b))
    (member (codes "position") (optional_data (position_in b))
    (member (codes "text") (string (binding_text b)) no_members))))

-- Its types

-- the principal type
abbrev pub scheme_in : InModule → Option (List ℕ)
scheme_in no_declared = None
scheme_in (principal text) = Some text
scheme_in (not_exported name) = None
scheme_in (of_bad_module name) = None

-- the type at the place
abbrev pub type_in : AtPlace → Option (List ℕ)
type_in no_type = None
type_in (of_local t) = Some t.text
type_in (of_use t) = Some t.text
type_in not_found = None

abbrev pub owner_in : AtPlace → Option Owner
owner_in no_type = None
owner_in (of_local t) = t.owner
owner_in (of_use t) = t.owner
owner_in not_found = None

abbrev pub owner_data : Option Owner → Data
owner_data None = null
owner_data (Some d) = object (member (codes "name") (string d.name) (member (codes "type") (string d.own) no_members))

-- the words of the prose for a type that isn't found
abbrev pub unfound_in : AtPlace → Option (List ℕ)
unfound_in no_type = None
unfound_in (of_local t) = None
unfound_in (of_use t) = None
unfound_in not_found = Some not_found_text

abbrev pub untyped_in : InModule → AtPlace → Option (List ℕ)
untyped_in no_declared h = unfound_in h
untyped_in (principal text) h = unfound_in h
untyped_in (not_exported name) h = Some (hidden_text name)
untyped_in (of_bad_module name) h = Some (not_good_text name)

-- The objects

-- the object of a name with these members
abbrev pub joined_data : List ℕ → List ℕ → Data → Data → Data → Data → Data → Data → Data
joined_data kind text bound definition here range declared untyped = object (member (codes "bound") bound
    (member (codes "definition") definition
    (member (codes "here") here
    (member (codes "kind") (string kind)
    (member (codes "name") (string text)
    (member (codes "range") range
    (member (codes "type") declared
    (member (codes "untyped") untyped no_members))))))))

abbrev pub name_data : NameFacts → Data
name_data n = joined_data (kind_text n.kind) n.text (binding_data n.binding) (owner_data (owner_in n.here)) (text_data (type_in n.here)) (optional_range n.range)
    (text_data (scheme_in n.declared)) (text_data (untyped_in n.declared n.here))

abbrev pub skipped_data : List ℕ → Data
skipped_data name = object (member (codes "kind") (string (codes "skipped")) (member (codes "module") (string name) no_members))

abbrev pub item_data : Item → Data
item_data (a_name n) = name_data n
item_data (in_skipped name) = skipped_data name

abbrev pub items_data : List Item → Data
items_data is = array (items_of (map item_data is))

-- the number of the format of these objects, which grows if a member changes its meaning
abbrev pub format : ℕ
format = 1

-- `text` is the text for readers
abbrev pub place_data : Facts → Data
place_data f = object (member (codes "column") (count f.column)
    (member (codes "file") (string f.file)
    (member (codes "format") (count format)
    (member (codes "kind") (string (codes "place"))
    (member (codes "line") (count f.line)
    (member (codes "names") (items_data f.items)
    (member (codes "text") (string (prose f)) no_members)))))))

-- the object of sources that are refused, with the text of their refusal
abbrev pub refused_data : List ℕ → Data
refused_data text = object (member (codes "format") (count format)
    (member (codes "kind") (string (codes "refused"))
    (member (codes "text") (string text) no_members)))

-- each object is on its own line
abbrev pub place_object : Facts → List ℕ
place_object f = compact_text (place_data f) ++ codes "\n"

abbrev pub refused_object : List ℕ → List ℕ
refused_object text = compact_text (refused_data text) ++ codes "\n"
