-- The notes of two parts of a definition that together are to blame for a type fault.
use Rattle.std.specs.Prelude.{◌≡◌, ◌⊎◌, List, ℕ, Some, [], ◌++◌}
use Rattle.hm_types.specs.Interfaces.{Exports as Interface}
use Rattle.hm_names.specs.declared.faults.Fault.{Fault}
use Rattle.hm_names.specs.declared.faults.Kind.TheVariants.{Untyped}
use Rattle.hm_messages_excerpts.specs.Columns.{AreColumnsAt}
use Rattle.hm_messages_excerpts.specs.declared.columns.Columns.{Columns}
use Rattle.hm_messages.specs.Messages.{reader_place}
use Rattle.hm_messages.specs.Subjects.{replaceable}
use Rattle.hm_messages.specs.declared.heading.MessageFormat.{MessageFormat}
use Rattle.hm_messages.specs.declared.topic.Pair.{Pair}
use Rattle.hm_messages.specs.declared.topic.Pair.TheVariants as pair
use Rattle.hm_messages.specs.declared.topic.Way.TheVariants as way
use Rattle.hm_messages_joint.specs.Joints.{HasTypeWithBoth, NeedsBoth, range_of}
use Rattle.hm_messages_joint.specs.declared.parts.JointPart.{JointPart}
use Rattle.hm_messages_joint.specs.declared.parts.JointPart.TheVariants.{Expression, Pattern}
use Rattle.hm_build_messages.specs.PartMessages.{IsPartMessage}

-- what a part and an expression, or a part and a pattern, are
abbrev pub beside_expression : JointPart → Pair
beside_expression (Expression range) = pair.Expressions
beside_expression (Pattern range) = pair.PatternBesideExpression

abbrev pub beside_pattern : JointPart → Pair
beside_pattern (Expression range) = pair.ExpressionBesidePattern
beside_pattern (Pattern range) = pair.Patterns

-- what the part at which a note is and the other one are
abbrev pub pair_of : JointPart → JointPart → Pair
pair_of part (Expression range) = beside_expression part
pair_of part (Pattern range) = beside_pattern part

-- the note of one part states where it ends and where the other one begins, with places as readers count
pub record IsJointNote (format : MessageFormat) (file source definition : List ℕ) (part other : JointPart) (text : List ℕ) : Type 0 where
  pub ends : Columns
  pub ends_at : AreColumnsAt source (range_of part).end ends
  pub begins : Columns
  pub begins_at : AreColumnsAt source (range_of other).start begins
  pub stated : IsPartMessage format file source (range_of part) (Some (range_of other))
      (replaceable definition (way.Both (pair_of part other) (reader_place (range_of part).end ends) (reader_place (range_of other).start begins))) [] text

-- The notes of two parts of the definition of a type fault, one for each. With something of every type in place of both the definition has a type, and with
-- that in place of one alone it is a type fault
pub record AreJointNotes (format : MessageFormat) (file source name : List ℕ) (fs : List Interface) (f : Fault) (text : List ℕ) : Type 0 where
  pub untyped : f.kind ≡ Untyped
  pub first : JointPart
  pub second : JointPart
  pub suffices : HasTypeWithBoth source name fs f.name first second
  pub needed : NeedsBoth source name fs f.name first second
  pub one : List ℕ
  pub one_stated : (one ≡ []) ⊎ IsJointNote format file source f.name first second one
  pub two : List ℕ
  pub two_stated : (two ≡ []) ⊎ IsJointNote format file source f.name second first two
  pub whole : text ≡ one ++ two
