-- The names that may be written at a place (Language Server Protocol 3.17, "Completion Request").
use Rattle.std.specs.Prelude.{ℕ, false, List, Option, None, Some, codes, map, option_map, string_bytes}
use Rattle.serde_json.specs.Data.{Data, Members, array, boolean, member, no_members, number, object, string, unsigned}
use Rattle.serde_json.specs.View.{items_of}
use Rattle.hm_lsp_positions.specs.declared.positions.Position.{Position}
use Rattle.hm_lsp_values.specs.Spans.{span_data}
use Rattle.hm_names.specs.declared.namespace.Namespace.{Namespace}
use Rattle.hm_names.specs.declared.namespace.Namespace.TheVariants.{Constructors, Types, Values}
use Rattle.hm_scope_typed_names.specs.declared.typed.TypedName.{TypedName}

-- a variable is a function, 3, a constructor is 4, and a type is a structure, 22 (`CompletionItemKind`)
abbrev pub completion_kind : Namespace → ℕ
completion_kind Values = 3
completion_kind Constructors = 4
completion_kind Types = 22

-- the name in place of what is written between two positions (`TextEdit`)
abbrev pub written_data : Position → Position → TypedName → Data
written_data start end n = object (member (codes "newText") (string (string_bytes n.text)) (member (codes "range") (span_data start end) no_members))

abbrev pub name_members : Position → Position → TypedName → Members
name_members start end n = member (codes "kind") (number (unsigned (completion_kind n.space)))
    (member (codes "label") (string (string_bytes n.text))
    (member (codes "textEdit") (written_data start end n) no_members))

-- the type comes before them, if the name has one
abbrev pub typed_members : Option (List ℕ) → Members → Members
typed_members None members = members
typed_members (Some scheme) members = member (codes "detail") (string scheme) members

-- a name with its type, in place of what is written between two positions (`CompletionItem`)
abbrev pub completion_data : Position → Position → TypedName → Data
completion_data start end n = object (typed_members (option_map string_bytes n.scheme) (name_members start end n))

-- exactly these names, in order. No others begin with what is written (`CompletionList`)
abbrev pub completions_data : Position → Position → List TypedName → Data
completions_data start end names =
    object (member (codes "isIncomplete") (boolean false) (member (codes "items") (array (items_of (map (completion_data start end) names))) no_members))
