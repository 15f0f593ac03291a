-- The JSON object of a module in a report (RFC 8259): its members, in the order of their names.
use Rattle.std.specs.Prelude.{ℕ, Bool, false, cond, List, [], ◌∷◌, ◌++◌, Option, None, Some, bytes_eq, codes, length, map, option_to_list}
use Rattle.std.specs.List.{flat_map}
use Rattle.serde_json.specs.Data.{Data, null, number, unsigned, string, array, no_items, item, object, member, no_members}
use Rattle.serde_json.specs.View.{items_of}
use Rattle.serde_json.specs.Written.{compact_text}
use Rattle.hm_syntax.specs.Names.{Identifier}
use Rattle.hm_syntax.specs.Lists.{declarations}
use Rattle.hm_syntax.specs.Trees.{DataConstructor, DataConstructors, data_constructor, no_constructors, more_constructors, Declaration, data_declaration, newtype_declaration, synonym_declaration, signature, clause, pattern_binding}
use Rattle.hm_syntax.specs.declared.ast.Import.{Import}
use Rattle.hm_syntax.specs.declared.ast.Module.{Module}
use Rattle.hm_types.specs.declared.Entity.{Entity}
use Rattle.hm_types.specs.declared.entries.TypeEntry.{TypeEntry}
use Rattle.hm_types.specs.declared.entries.SynonymEntry.{SynonymEntry}
use Rattle.hm_types.specs.declared.entries.ConstructorEntry.{ConstructorEntry}
use Rattle.hm_types.specs.declared.entries.ValueEntry.{ValueEntry}
use Rattle.hm_types.specs.Interfaces.{Exports as Interface}
use Rattle.hm_types_display.specs.Texts.{scheme_text_of}
use Rattle.hm_names.specs.declared.faults.Fault.{Fault}
use Rattle.hm_names.specs.Variables.{bound_names, type_count}
use Rattle.hm_verdicts.specs.Reports.{kind_word}
use Rattle.hm_verdicts.specs.Verdicts.{Status, Published, Failed, Skipped}
use Rattle.hm_build_objects.specs.TypeTexts.{written_text}
use Rattle.hm_build_objects.specs.declared.type_texts.Side.TheVariants.{Whole}

abbrev pub count : ℕ → Data
count n = number (unsigned n)

abbrev pub list_data : List Data → Data
list_data ds = array (items_of ds)

-- The interface: each entry with its entity, and each scheme by its text

abbrev pub entity_data : Entity → Data
entity_data e = object (member (codes "module") (string e.«module») (member (codes "name") (string e.name) no_members))

abbrev pub type_data : TypeEntry → Data
type_data e = object (member (codes "entity") (entity_data e.entity)
    (member (codes "name") (string e.name)
    (member (codes "parameters") (count e.arity) no_members)))

abbrev pub synonym_data : SynonymEntry → Data
synonym_data e = object (member (codes "entity") (entity_data e.entity)
    (member (codes "name") (string e.name)
    (member (codes "parameters") (count e.synonym.parameters) no_members)))

abbrev pub constructor_data : ConstructorEntry → Data
constructor_data e = object (member (codes "arguments") (count e.arguments)
    (member (codes "entity") (entity_data e.entity)
    (member (codes "name") (string e.name)
    (member (codes "owner") (entity_data e.owner)
    (member (codes "type") (string (scheme_text_of e.scheme))
    (member (codes "variables") (count e.scheme.vars) no_members))))))

abbrev pub value_data : ValueEntry → Data
value_data e = object (member (codes "entity") (entity_data e.entity)
    (member (codes "name") (string e.name)
    (member (codes "type") (string (scheme_text_of e.scheme))
    (member (codes "variables") (count e.scheme.vars) no_members))))

abbrev pub interface_data : Interface → Data
interface_data f = object (member (codes "constructors") (list_data (map constructor_data f.constructors))
    (member (codes "synonyms") (list_data (map synonym_data f.synonyms))
    (member (codes "types") (list_data (map type_data f.types))
    (member (codes "values") (list_data (map value_data f.values)) no_members))))

-- What the module declares, with places as in the report

abbrev pub name_data : Identifier → Data
name_data n = object (member (codes "column") (count n.column)
    (member (codes "line") (count n.line)
    (member (codes "name") (string n.text) no_members)))

-- a constructor with so many arguments
abbrev pub arguments_data : Identifier → ℕ → Data
arguments_data n k = object (member (codes "arguments") (count k)
    (member (codes "name") (name_data n) no_members))

abbrev pub constr_data : DataConstructor → Data
constr_data (data_constructor n ts) = arguments_data n (type_count ts)

-- a declaration of a type, with its constructors in order, or the right side of a synonym
abbrev pub declared_data : List ℕ → Identifier → List Identifier → Data → Data → Data
declared_data kind n params constructors written = object (member (codes "constructors") constructors
    (member (codes "kind") (string kind)
    (member (codes "name") (name_data n)
    (member (codes "parameters") (list_data (map name_data params))
    (member (codes "type") written no_members)))))

abbrev pub constrs_data : DataConstructors → List Data
constrs_data no_constructors = []
constrs_data (more_constructors c cs) = constr_data c ∷ constrs_data cs

abbrev pub declared_type : Declaration → Option Data
declared_type (data_declaration n ps cs) = Some (declared_data (codes "data") n ps (list_data (constrs_data cs)) null)
declared_type (newtype_declaration n ps c) = Some (declared_data (codes "newtype") n ps (list_data (constr_data c ∷ [])) null)
declared_type (synonym_declaration n ps t) = Some (declared_data (codes "synonym") n ps (list_data []) (string (written_text Whole t)))
declared_type (signature ns t) = None
declared_type (clause n ps r) = None
declared_type (pattern_binding line column p r) = None

abbrev pub declared_types : List Declaration → List Data
declared_types ds = flat_map (λ d. option_to_list (declared_type d)) ds

abbrev pub is_repeated : Option (List ℕ) → Identifier → Bool
is_repeated None n = false
is_repeated (Some before) n = bytes_eq before n.text

-- the names without those that follow themselves: each function once, at its first clause
abbrev pub runs : Option (List ℕ) → List Identifier → List Identifier
runs before [] = []
runs before (n ∷ ns) = cond (is_repeated before n) [] (n ∷ []) ++ runs (Some n.text) ns

abbrev pub defines_data : List Declaration → Data
defines_data ds = object (member (codes "types") (list_data (declared_types ds))
    (member (codes "values") (list_data (map name_data (runs None (bound_names (declarations ds))))) no_members))

-- The verdict

abbrev pub fault_data : Fault → Data
fault_data f = object (member (codes "column") (count f.place.column)
    (member (codes "kind") (string (kind_word f.kind))
    (member (codes "line") (count f.place.line)
    (member (codes "name") (string f.name) no_members))))

abbrev pub verdict_word : Status → List ℕ
verdict_word (Published f) = codes "good"
verdict_word (Failed found) = codes "faulty"
verdict_word Skipped = codes "skipped"

abbrev pub interface_of : Status → Data
interface_of (Published f) = interface_data f
interface_of (Failed found) = null
interface_of Skipped = null

abbrev pub faults_of : Status → Data
faults_of (Published f) = list_data []
faults_of (Failed found) = list_data (map fault_data found)
faults_of Skipped = list_data []

-- The module

abbrev pub joined_data : List ℕ → List ℕ → List ℕ → Data → Data → Data → Data → Data → Data
joined_data file name verdict defines faults imports interface blamed = object (member (codes "defines") defines
    (member (codes "faults") faults
    (member (codes "file") (string file)
    (member (codes "imports") imports
    (member (codes "interface") interface
    (member (codes "kind") (string (codes "module"))
    (member (codes "module") (string name)
    (member (codes "skippedBy") blamed
    (member (codes "verdict") (string verdict) no_members)))))))))

-- the object of a module with this status, which is skipped because of the imports with these names
abbrev pub module_data : List ℕ → Module → Status → List (List ℕ) → Data
module_data file m status blamed = joined_data file m.header.name.text (verdict_word status) (defines_data m.decls) (faults_of status)
    (list_data (map (λ i. name_data i.name) m.header.imports)) (interface_of status) (list_data (map string blamed))

-- the same, on a line of its own
abbrev pub module_text : List ℕ → Module → Status → List (List ℕ) → List ℕ
module_text file m status blamed = compact_text (module_data file m status blamed) ++ codes "\n"
