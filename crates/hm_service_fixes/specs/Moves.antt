-- Where the places of a text are after a part of it is replaced.
use Rattle.std.specs.Prelude.{◌≡◌, ◌≤◌, ◌<◌, ◌+◌}
use Rattle.hm_lex.specs.Places.{IsBefore}
use Rattle.hm_lex.specs.declared.token.Place.{Place}
use Rattle.hm_service_fixes.specs.declared.moves.Replacement.{Replacement}

-- the second place is as far after the new end of the part as the first one is after the old end: on the line of the end by columns, and below it by lines
pub data MovesWith (end new_end p q : Place) : Type 0 where
  on_line : p.line ≡ end.line → end.column ≤ p.column → q.line ≡ new_end.line → q.column + end.column ≡ p.column + new_end.column → MovesWith end new_end p q
  below : end.line < p.line → q.line + end.line ≡ p.line + new_end.line → q.column ≡ p.column → MovesWith end new_end p q

-- the place of the new text where a place of the old one is. A place before the part stays, and one after it moves with its end. One in the part has none
pub data IsMoved (r : Replacement) (p q : Place) : Type 0 where
  ahead : IsBefore p r.start → q ≡ p → IsMoved r p q
  after : MovesWith r.end r.new_end p q → IsMoved r p q
