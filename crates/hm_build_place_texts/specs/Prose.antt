-- The text of a place for readers.
use Rattle.std.specs.Prelude.{ℕ, List, [], ◌∷◌, ◌++◌, Option, None, Some, codes}
use Rattle.std.specs.Fmt.{decimal}
use Rattle.std.specs.List.{flat_map}
use Rattle.hm_messages_json.specs.declared.message.Position.{Position}
use Rattle.hm_uses.specs.declared.name_kind.NameKind.{NameKind}
use Rattle.hm_uses.specs.declared.name_kind.NameKind.TheVariants.{Variable, Constructor, TypeVariable, TypeConstructor, ModuleName}
use Rattle.hm_build_place_texts.specs.Facts.{AtPlace, Binding, Facts, InModule, Item, NameFacts, Owner, at_site, in_module, in_skipped, is_ambiguous, is_prefix, is_unbound, a_name, no_declared, no_type, not_exported, not_found, of_bad_module, of_local, of_use, principal}

abbrev pub kind_text : NameKind → List ℕ
kind_text Variable = codes "variable"
kind_text Constructor = codes "constructor"
kind_text TypeVariable = codes "type variable"
kind_text TypeConstructor = codes "type"
kind_text ModuleName = codes "module"

-- Where a name is bound

-- FILE:LINE:COLUMN
abbrev pub spot_text : List ℕ → ℕ → ℕ → List ℕ
spot_text file line column = file ++ (codes ":" ++ (decimal line ++ (codes ":" ++ decimal column)))

-- the column counts characters, as that of a message. A place that isn't in the source has only its file
abbrev pub site_text : List ℕ → Option Position → List ℕ
site_text file None = file
site_text file (Some p) = spot_text file p.line p.columns.characters

abbrev pub binding_text : Binding → List ℕ
binding_text (at_site s) = codes "bound at " ++ site_text s.file s.position
binding_text (in_module name) = codes "bound in " ++ name
binding_text is_prefix = codes "a prefix of qualified names"
binding_text is_unbound = codes "bound nowhere"
binding_text is_ambiguous = codes "ambiguous"

-- Its types

abbrev pub hidden_text : List ℕ → List ℕ
hidden_text name = codes "no type: module " ++ (name ++ codes " doesn't export it")

abbrev pub not_good_text : List ℕ → List ℕ
not_good_text name = codes "no type: module " ++ (name ++ codes " isn't good")

abbrev pub not_found_text : List ℕ
not_found_text = codes "no type is found"

abbrev pub name_line : List ℕ → List ℕ
name_line text = codes "  " ++ (text ++ codes "\n")

abbrev pub type_line : List ℕ → List ℕ
type_line text = codes "  type " ++ (text ++ codes "\n")

abbrev pub declared_line : InModule → List ℕ
declared_line no_declared = []
declared_line (principal text) = type_line text
declared_line (not_exported name) = name_line (hidden_text name)
declared_line (of_bad_module name) = name_line (not_good_text name)

-- the line of the definition that a name is in
abbrev pub owner_line : Option Owner → List ℕ
owner_line None = []
owner_line (Some d) = codes "  in " ++ (d.name ++ (codes " :: " ++ (d.own ++ codes "\n")))

abbrev pub here_lines : AtPlace → List ℕ
here_lines no_type = []
here_lines (of_local t) = codes "  type " ++ (t.text ++ (codes "\n" ++ owner_line t.owner))
here_lines (of_use t) = codes "  here " ++ (t.text ++ (codes "\n" ++ owner_line t.owner))
here_lines not_found = name_line not_found_text

-- The lines of a name, and of a place

-- the kind of a name and the name as it is written, where it is bound, and its types
abbrev pub name_text : NameFacts → List ℕ
name_text n = kind_text n.kind ++ (codes " " ++ (n.text ++ (codes "\n  " ++ (binding_text n.binding ++ (codes "\n" ++ (declared_line n.declared ++ here_lines n.here))))))

abbrev pub skipped_text : List ℕ → List ℕ
skipped_text name = codes "a name in module " ++ (name ++ codes ", which is skipped\n")

abbrev pub item_text : Item → List ℕ
item_text (a_name n) = name_text n
item_text (in_skipped name) = skipped_text name

-- the text where no name is
abbrev pub nothing_text : List ℕ → ℕ → ℕ → List ℕ
nothing_text file line column = file ++ (codes ":" ++ (decimal line ++ (codes ":" ++ (decimal column ++ codes ": no name is here\n"))))

-- the texts of the items, one after the other
abbrev pub items_text : List ℕ → ℕ → ℕ → List Item → List ℕ
items_text file line column [] = nothing_text file line column
items_text file line column (i ∷ is) = flat_map item_text (i ∷ is)

abbrev pub prose : Facts → List ℕ
prose f = items_text f.file f.line f.column f.items
