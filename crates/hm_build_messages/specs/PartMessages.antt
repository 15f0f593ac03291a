-- The message about a part of a definition.
use Rattle.std.specs.Prelude.{ℕ, List, Option}
use Rattle.hm_messages.specs.Messages.{IsMessageWith}
use Rattle.hm_messages.specs.Subjects.{Subject}
use Rattle.hm_messages.specs.declared.heading.MessageFormat.{MessageFormat}
use Rattle.hm_messages_changes.specs.declared.data.SourceRange.{SourceRange}
use Rattle.hm_messages_edits.specs.Spans.{IsSpanOf, IsSpanOfAny}
use Rattle.hm_messages_json.specs.Edits.{Changed}
use Rattle.hm_messages_json.specs.declared.positions.Span.{Span}

-- the text states the subject where the part begins. A program gets the whole part, the other one if there are two, and the changes
pub record IsPartMessage (format : MessageFormat) (file source : List ℕ) (part : SourceRange) (second : Option SourceRange) (subject : Subject) (changes : List Changed) (text : List ℕ) : Type 0 where
  pub whole : Option Span
  pub whole_is : IsSpanOf part whole
  pub other : Option Span
  pub other_is : IsSpanOfAny second other
  pub stated : IsMessageWith format file source part.start subject (record { changes = changes; part = whole; second = other }) text
