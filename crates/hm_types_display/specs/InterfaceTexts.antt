-- The text of an interface: the module's name, then a line for each export.
use Rattle.std.specs.Prelude.{ℕ, List, ◌++◌, codes}
use Rattle.std.specs.Fmt.{decimal}
use Rattle.std.specs.List.{flat_map}
use Rattle.hm_types.specs.declared.Entity.{Entity}
use Rattle.hm_types.specs.declared.entries.TypeEntry.{TypeEntry}
use Rattle.hm_types.specs.declared.entries.SynonymEntry.{SynonymEntry}
use Rattle.hm_types.specs.declared.entries.ConstructorEntry.{ConstructorEntry}
use Rattle.hm_types.specs.declared.entries.ValueEntry.{ValueEntry}
use Rattle.hm_types_display.specs.declared.printing.Position.TheVariants.{Whole}
use Rattle.hm_types.specs.Monotypes.{Mono}
use Rattle.hm_types_display.specs.Texts.{original_text, type_text}
use Rattle.hm_types.specs.Interfaces.{Exports}

-- a name with its number of parameters
abbrev pub counted : List ℕ → ℕ → List ℕ
counted name n = name ++ codes "/" ++ decimal n

-- the entity of a name, after an equals sign
abbrev pub meaning : Entity → List ℕ
meaning e = codes " = " ++ original_text e

-- a type, after two colons
abbrev pub typed : Mono → List ℕ
typed t = codes " :: " ++ type_text Whole t

abbrev pub type_line : TypeEntry → List ℕ
type_line e = codes "  type " ++ counted e.name e.arity ++ meaning e.entity ++ codes "\n"

-- parameter number i is printed as variable number i
abbrev pub synonym_line : SynonymEntry → List ℕ
synonym_line e = codes "  syn " ++ counted e.name e.synonym.parameters ++ meaning e.entity ++ typed e.synonym.body ++ codes "\n"

abbrev pub constructor_line : ConstructorEntry → List ℕ
constructor_line e = codes "  con " ++ e.name ++ meaning e.entity ++ typed e.scheme.body ++ codes "\n"

abbrev pub value_line : ValueEntry → List ℕ
value_line e = codes "  val " ++ e.name ++ meaning e.entity ++ typed e.scheme.body ++ codes "\n"

abbrev pub interface_text_of : Exports → List ℕ
interface_text_of e =
    codes "module " ++ e.name ++ codes "\n" ++ flat_map type_line e.types ++ flat_map synonym_line e.synonyms ++ flat_map constructor_line e.constructors ++
    flat_map value_line e.values
