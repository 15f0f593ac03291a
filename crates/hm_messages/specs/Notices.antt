-- What a message says beside its place and its title: one line for each subject.
use Rattle.std.specs.Prelude.{Bool, ℕ, List, [], Option, None, Some, codes}
use Rattle.hm_messages_json.specs.declared.message.Level.{Level}
use Rattle.hm_messages_json.specs.declared.message.Level.TheVariants.{Error, Note}
use Rattle.hm_messages_json.specs.declared.message.Position.{Position}
use Rattle.hm_messages_hints.specs.LexemeTexts.{lexeme_help}
use Rattle.hm_messages_hints.specs.SyntaxTexts.{syntax_help}
use Rattle.hm_messages_hints.specs.declared.syntax_hints.SyntaxHint.{SyntaxHint}
use Rattle.hm_names.specs.declared.faults.Kind.{Kind}
use Rattle.hm_verdicts.specs.Reports.{kind_word}
use Rattle.hm_messages.specs.Sentences.{fault_sentence, types_sentence}
use Rattle.hm_messages.specs.declared.topic.Way.{Way}
use Rattle.hm_messages.specs.declared.topic.Way.TheVariants as way
use Rattle.hm_messages.specs.Subjects.{Subject, fault, replaceable, wrapped, too_many_arguments, too_few_arguments, mistyped, unsigned, follows, faulty, skipped, too_long, lexeme, open_comment, too_deep, syntax_fault, too_many, twice, twin, missing, cycle, exhausted, limit, step, hidden, type_variable, left_out, private, importable, unbound_type}

-- its level; the report's word for what is wrong, or the word for a sort of note; the name that it is about, if it is about one; the other place that it
-- names; the rule that is broken or a hint; the type that is expected at a part, and the type that the part or a definition has
pub record Notice : Type 0 where
  pub level : Level
  pub kind : List ℕ
  pub name : Option (List ℕ)
  pub other : Option Position
  pub sentence : List ℕ
  pub expected : Option (List ℕ)
  pub actual : Option (List ℕ)

abbrev pub error : List ℕ → Option (List ℕ) → List ℕ → Notice
error kind name sentence = record { level = Error; kind = kind; name = name; other = None; sentence = sentence; expected = None; actual = None }

abbrev pub note : List ℕ → Option (List ℕ) → Notice
note kind name = record { level = Note; kind = kind; name = name; other = None; sentence = []; expected = None; actual = None }

-- a fault of a module
abbrev pub fault_notice : Kind → List ℕ → Option Position → Notice
fault_notice k x other = record { level = Error; kind = kind_word k; name = Some x; other = other; sentence = fault_sentence k; expected = None; actual = None }

-- a fault of syntax
abbrev pub syntax_notice : SyntaxHint → Option Position → Notice
syntax_notice h other = record { level = Error; kind = codes "syntax"; name = None; other = other; sentence = syntax_help h; expected = None; actual = None }

-- a part with two types
abbrev pub types_notice : List ℕ → List ℕ → List ℕ → Bool → Notice
types_notice x expected actual infinite =
    record { level = Note; kind = codes "mistyped"; name = Some x; other = None; sentence = types_sentence infinite; expected = Some expected; actual = Some actual }

-- a signature without which a definition has a type
abbrev pub signature_notice : List ℕ → List ℕ → Notice
signature_notice x own = record { level = Note; kind = codes "signature"; name = Some x; other = None; sentence = []; expected = None; actual = Some own }

-- a name that isn't in scope, with the type that is expected of it
abbrev pub expected_notice : List ℕ → List ℕ → Notice
expected_notice x t = record { level = Note; kind = codes "expected"; name = Some x; other = None; sentence = []; expected = Some t; actual = None }

-- the word for a change that gives a definition a type
abbrev pub way_kind : Way → List ℕ
way_kind (way.Expression p) = codes "replaceable"
way_kind (way.Pattern p) = codes "pattern"
way_kind (way.Exchange p) = codes "exchange"
way_kind (way.Removal p) = codes "removal"
way_kind (way.Sides p) = codes "exchange"
way_kind (way.Patterns p) = codes "exchange"
way_kind (way.Brackets p) = codes "brackets"
way_kind (way.ListBrackets p) = codes "brackets"
way_kind (way.Argument p) = codes "argument"
way_kind way.Semicolon = codes "mark"
way_kind way.Comma = codes "mark"
way_kind (way.Both pair p q) = codes "both"

abbrev pub notice_of : Subject → Notice
notice_of (fault k x known other) = fault_notice k x other
notice_of (replaceable x w) = note (way_kind w) (Some x)
notice_of (wrapped x c p) = note (codes "constructor") (Some x)
notice_of (too_many_arguments x f here then p) = note (codes "removal") (Some x)
notice_of (too_few_arguments x f here then p) = note (codes "argument") (Some x)
notice_of (mistyped x p expected actual infinite) = types_notice x expected actual infinite
notice_of (unsigned x p own) = signature_notice x own
notice_of (follows x y p) = note (codes "follows") (Some x)
notice_of (faulty x) = note (codes "skipped") (Some x)
notice_of (skipped x) = note (codes "skipped") (Some x)
notice_of too_long = error (codes "too-long") None (codes "A source has at most 1,048,576 bytes.\n")
notice_of (lexeme h x) = error (codes "lexeme") None (lexeme_help h x)
notice_of open_comment = error (codes "open-comment") None (codes "A comment ends with `-}`; a `{-` within it begins another one.\n")
notice_of too_deep = error (codes "too-deep") None (codes "At most 200 brackets may be open at once.\n")
notice_of (syntax_fault h x other) = syntax_notice h other
notice_of too_many = error (codes "too-many-modules") None (codes "A set has at most 4,096 modules.\n")
notice_of (twice x) = error (codes "twice") (Some x) (codes "Each module of a set has a name of its own, and `Prelude` is built in.\n")
notice_of (twin x) = note (codes "twice") (Some x)
notice_of (missing x y) = error (codes "missing") (Some x) (codes "An import names a module of the set or `Prelude`; there is no other library.\n")
notice_of (cycle x) = error (codes "cycle") (Some x) (codes "Modules may not import each other in a circle.\n")
notice_of (exhausted x) = error (codes "no-memory") (Some x) (codes "Its types grow too large, its imports or exports repeat too much, or the machine has no more memory.\n")
notice_of limit = note (codes "limit") None
notice_of (step x y) = note (codes "import") (Some y)
notice_of (hidden k x) = note (codes "hidden") (Some x)
notice_of (type_variable x t) = note (codes "variable") (Some x)
notice_of (left_out m x) = note (codes "left-out") (Some x)
notice_of (private m x) = note (codes "private") (Some x)
notice_of (importable m x) = note (codes "importable") (Some x)
notice_of (unbound_type x t) = expected_notice x t
