-- What is wrong with a module, in a few words.
use Rattle.std.specs.Prelude.{ℕ, cond, List, [], ◌++◌, Option, Some, None, codes}
use Rattle.std.specs.Fmt.{decimal}
use Rattle.hm_messages_json.specs.declared.message.Position.{Position}
use Rattle.hm_messages_details.specs.Candidates.{Candidate}
use Rattle.hm_messages_details.specs.Details.{Known, nothing, near, of_report, either, first, arguments, lengths, not_from, near_binding, near_local, elsewhere, by_pattern}
use Rattle.hm_names.specs.declared.faults.Kind.{Kind}
use Rattle.hm_names.specs.declared.namespace.Namespace.{Namespace}
use Rattle.hm_names.specs.declared.namespace.Namespace.TheVariants.{Types, Constructors, Values}
use Rattle.hm_names.specs.declared.faults.Kind.TheVariants.{NotExported, Duplicate, NoBinding, Unbound, Ambiguous, ExportClash, NotImported, NonLinear, Arity, ClauseLength, Untyped, Recursive}
use Rattle.hm_names.specs.Faults.Phases.{written_in}

-- what is wrong with a module, in a few words, by the kind and the name
abbrev pub kind_title : Kind → List ℕ → List ℕ
kind_title NotExported x = codes "cannot import '" ++ x ++ codes "'"
kind_title Duplicate x = codes "a second declaration of '" ++ x ++ codes "'"
kind_title NoBinding x = codes "the signature of '" ++ x ++ codes "' has no clauses"
kind_title Unbound x = codes "'" ++ x ++ codes "' isn't in scope"
kind_title Ambiguous x = codes "'" ++ x ++ codes "' is ambiguous"
kind_title ExportClash x = codes "two different things are exported as '" ++ x ++ codes "'"
kind_title NotImported x = codes "no import is called '" ++ x ++ codes "'"
kind_title NonLinear x = codes "'" ++ x ++ codes "' occurs twice in these patterns"
kind_title Arity x = codes "wrong number of arguments for '" ++ x ++ codes "'"
kind_title ClauseLength x = codes "the clauses of '" ++ x ++ codes "' have different numbers of patterns"
kind_title Untyped x = codes "type error in '" ++ x ++ codes "'"
kind_title Recursive x = codes "the type synonym '" ++ x ++ codes "' is defined by itself"

-- a name that one may be meant for
abbrev pub near_text : Option (List ℕ) → List ℕ → List ℕ
near_text q x = codes " (did you mean '" ++ written_in q x ++ codes "'?)"

-- two entities of one name, by the modules that define them
abbrev pub both_text : Candidate → Candidate → List ℕ
both_text c d =
    codes ": '" ++ c.entity.name ++ codes "' of module '" ++ c.entity.«module» ++ codes "' or '" ++ d.entity.name ++ codes "' of module '" ++ d.entity.«module» ++ codes "'"

abbrev pub line_text : Option ℕ → List ℕ
line_text None = []
line_text (Some line) = codes " (imported in line " ++ decimal line ++ codes ")"

-- an entity by its name with a qualifier, and the line of the import that gives this
abbrev pub qualified_text : List ℕ → Candidate → List ℕ
qualified_text q c = (codes "'" ++ q ++ codes "." ++ c.entity.name ++ codes "'") ++ line_text c.line

-- how to hide an entity of Prelude that is imported implicitly
abbrev pub hiding_text : Candidate → List ℕ
hiding_text c = cond c.implicit (codes ", or add 'import Prelude hiding (" ++ c.entity.name ++ codes ")'") []

-- what to write for two entities of one name
abbrev pub written_text : List ℕ → List ℕ → Candidate → Candidate → List ℕ
written_text q r c d = codes ": write " ++ qualified_text q c ++ codes " or " ++ qualified_text r d ++ hiding_text c ++ hiding_text d

abbrev pub either_by : Option (List ℕ) → Option (List ℕ) → Candidate → Candidate → List ℕ
either_by (Some q) (Some r) c d = written_text q r c d
either_by (Some q) None c d = both_text c d
either_by None r c d = both_text c d

abbrev pub either_text : Candidate → Candidate → List ℕ
either_text c d = either_by c.qualifier d.qualifier c d

-- the module that doesn't export the name, or not as a constructor of this type
abbrev pub not_from_text : List ℕ → Option (List ℕ) → List ℕ
not_from_text x None = codes ": '" ++ x ++ codes "' doesn't export it"
not_from_text x (Some t) = codes ": '" ++ x ++ codes "' doesn't export it as a constructor of '" ++ t ++ codes "'"

-- the same, with a near name that it exports
abbrev pub import_text : List ℕ → Option (List ℕ) → Option (List ℕ) → List ℕ
import_text x t None = not_from_text x t
import_text x t (Some y) = not_from_text x t ++ near_text None y

-- what has the name in this namespace
abbrev pub space_noun : Namespace → List ℕ
space_noun Types = codes "type"
space_noun Constructors = codes "constructor"
space_noun Values = codes "variable"

-- what is known beyond the kind and the name
abbrev pub detail_text : Known → List ℕ
detail_text nothing = []
detail_text (near q x) = near_text q x
detail_text of_report = codes ": this Prelude leaves it out"
detail_text (either c d) = either_text c d
detail_text (first p) = []
detail_text (arguments here takes) = codes ": it has " ++ decimal here ++ codes " here, but takes " ++ decimal takes
detail_text (lengths here others) = codes ": " ++ decimal here ++ codes " here, but " ++ decimal others ++ codes " in the first"
detail_text (not_from x t y) = import_text x t y
detail_text (near_binding x) = near_text None x
detail_text (elsewhere s) = codes ": a " ++ space_noun s ++ codes " has this name, but can't stand here"
detail_text by_pattern = codes ": a pattern binds it"
detail_text (near_local x) = near_text None x

-- where the first of two names is, its column in characters
abbrev pub first_text : Option Position → List ℕ
first_text None = []
first_text (Some p) = codes ": the first is at " ++ decimal p.line ++ codes ":" ++ decimal p.columns.characters

abbrev pub fault_title : Kind → List ℕ → Known → Option Position → List ℕ
fault_title k x known other = (kind_title k x ++ detail_text known) ++ first_text other

-- what is said of a fault that the report leaves out, because names aren't in scope
abbrev pub hidden_title : Kind → List ℕ → List ℕ
hidden_title k x = kind_title k x ++ codes ", whatever the names that aren't in scope mean"
