-- What a message says, without where its names lie in memory.
use Rattle.std.specs.Prelude.{Bool, List, Option, ℕ, option_map}
use Rattle.hm_lex.specs.declared.token.Place.{Place}
use Rattle.hm_messages_details.specs.Details.{Known, known_of}
use Rattle.hm_messages_hints.specs.declared.lexeme_hints.LexemeHint.{LexemeHint}
use Rattle.hm_messages_hints.specs.declared.syntax_hints.SyntaxHint.{SyntaxHint}
use Rattle.hm_messages_json.specs.declared.message.Position.{Position}
use Rattle.hm_names.specs.declared.faults.Kind.{Kind}
use Rattle.hm_messages.specs.declared.topic.Topic.{Topic}
use Rattle.hm_messages.specs.declared.topic.Way.{Way}
use Rattle.hm_messages.specs.declared.topic.Topic.TheVariants as topic

-- a fault of a module, with what is known of it and another place that this names; a way in which a definition has a type; a constructor with which it has one in front of an expression up to a place; an argument up to a place without which it has one, or an expression after which it
-- has one with one more argument, with the name that is applied, how many arguments that has and how many with the change; a part of a definition up to
-- a place, with the type that is expected there and the one that it has, and whether no type is both because it would contain itself; a signature up to a
-- place, with the type that its definition has without it, or without which that of another name has a type too; a module is skipped for a faulty import, or for a skipped one; why a set is refused, of a syntax fault with the place of another token that the hint
-- is about, and of an import that names no module with a near name; a module
-- with the name of a later one; a module that there is no memory to check; the trials of a run are used up; a step of a cycle; a fault that the report leaves out, because names aren't in
-- scope; a type variable, with the name of a type in scope; an import of a module that doesn't bring a name into scope; a module that declares a name and doesn't
-- export it; a module that exports a name and isn't imported; a name that isn't in scope, with the type that is
-- expected of it
pub data Subject : Type 0 where
  fault : Kind → List ℕ → Known → Option Position → Subject
  replaceable : List ℕ → Way → Subject
  wrapped : List ℕ → List ℕ → Place → Subject
  too_many_arguments : List ℕ → List ℕ → ℕ → ℕ → Place → Subject
  too_few_arguments : List ℕ → List ℕ → ℕ → ℕ → Place → Subject
  mistyped : List ℕ → Place → List ℕ → List ℕ → Bool → Subject
  unsigned : List ℕ → Place → List ℕ → Subject
  follows : List ℕ → List ℕ → Place → Subject
  faulty : List ℕ → Subject
  skipped : List ℕ → Subject
  too_long : Subject
  lexeme : LexemeHint → List ℕ → Subject
  open_comment : Subject
  too_deep : Subject
  syntax_fault : SyntaxHint → List ℕ → Option Position → Subject
  too_many : Subject
  twice : List ℕ → Subject
  twin : List ℕ → Subject
  missing : List ℕ → Option (List ℕ) → Subject
  cycle : List ℕ → Subject
  exhausted : List ℕ → Subject
  limit : Subject
  step : List ℕ → List ℕ → Subject
  hidden : Kind → List ℕ → Subject
  type_variable : List ℕ → List ℕ → Subject
  left_out : List ℕ → List ℕ → Subject
  private : List ℕ → List ℕ → Subject
  importable : List ℕ → List ℕ → Subject
  unbound_type : List ℕ → List ℕ → Subject

abbrev pub subject_of : Topic → Subject
subject_of (topic.Fault k n) = fault k n.name.now (known_of n.detail) n.other
subject_of (topic.Replaceable x p) = replaceable x.now p
subject_of (topic.Wrapped x c p) = wrapped x.now c.now p
subject_of (topic.TooManyArguments x counts) = too_many_arguments x.now counts.function.now counts.here counts.then counts.end
subject_of (topic.TooFewArguments x counts) = too_few_arguments x.now counts.function.now counts.here counts.then counts.end
subject_of (topic.Mistyped x types) = mistyped x.now types.end types.expected.now types.actual.now types.infinite
subject_of (topic.Unsigned x p t) = unsigned x.now p t.now
subject_of (topic.Follows x y p) = follows x.now y.now p
subject_of (topic.Faulty x) = faulty x.now
subject_of (topic.Skipped x) = skipped x.now
subject_of topic.TooLong = too_long
subject_of (topic.Lexeme h x) = lexeme h x.now
subject_of topic.OpenComment = open_comment
subject_of topic.TooDeep = too_deep
subject_of (topic.Syntax a) = syntax_fault a.hint a.text.now a.other
subject_of topic.TooMany = too_many
subject_of (topic.Twice x) = twice x.now
subject_of (topic.Twin x) = twin x.now
subject_of (topic.Missing x y) = missing x.now (option_map (λ n. n.now) y)
subject_of (topic.Cycle x) = cycle x.now
subject_of (topic.Exhausted x) = exhausted x.now
subject_of topic.Limit = limit
subject_of (topic.Step x y) = step x.now y.now
subject_of (topic.Hidden k x) = hidden k x.now
subject_of (topic.TypeVariable x t) = type_variable x.now t.now
subject_of (topic.LeftOut m x) = left_out m.now x.now
subject_of (topic.Private m x) = private m.now x.now
subject_of (topic.Importable m x) = importable m.now x.now
subject_of (topic.UnboundType x t) = unbound_type x.now t.now
