-- Worked examples: the message about a part of an empty source.
use Rattle.std.specs.Prelude.{ℕ, List, [], None, Option}
use Rattle.hm_build_messages.specs.PartMessages.{IsPartMessage}
use Rattle.hm_messages.specs.Subjects.{Subject}
use Rattle.hm_messages.specs.declared.heading.MessageFormat.{MessageFormat}
use Rattle.hm_messages_changes.specs.declared.data.SourceRange.{SourceRange}
use Rattle.hm_messages_json.specs.Edits.{Changed}

-- a part of one byte, at this column of the first line
abbrev pub part_at : ℕ → SourceRange
part_at column = record { from = 0; to = 0; start = record { line = 1; column = column }; end = record { line = 1; column = column } }

-- an empty source has one place. The message about a part that begins elsewhere is left out, and the one about a part that begins there isn't
pub record PartRow : Type 0 where
  pub outside : (format : MessageFormat) (file : List ℕ) (s : Subject) (changes : List Changed) → IsPartMessage format file [] (part_at 2) None s changes []
  pub inside : (format : MessageFormat) (file : List ℕ) (s : Subject) (second : Option SourceRange) (changes : List Changed) → ¬ (IsPartMessage format file [] (part_at 1) second s changes [])
