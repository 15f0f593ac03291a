-- The mark whose token a trial puts in, or `}` if it puts none in.
use Rattle.hm_messages_hints.specs.declared.change.TokenChange.{TokenChange}
use Rattle.hm_messages_hints.specs.declared.change.TokenChange.TheVariants.{Insert, Replace, Remove}
use Rattle.hm_messages_hints.specs.declared.mark.Mark.{Mark}
use Rattle.hm_messages_hints.specs.declared.mark.Mark.TheVariants.{RightBrace}

abbrev pub mark_of : TokenChange → Mark
mark_of (Insert m) = m
mark_of (Replace m) = m
mark_of Remove = RightBrace
