-- The text of an excerpt: the line, and a mark below the place.
use Rattle.std.specs.Prelude.{ℕ, ◌-◌, ◌==◌, max, Bool, true, false, List, [], ◌++◌, codes, length, replicate, slice_index, take, if◌then◌else◌}
use Rattle.hm_messages_excerpts.specs.Escapes.{shown, width}
use Rattle.hm_messages_excerpts.specs.Marks.{marked}
use Rattle.hm_messages_excerpts.specs.declared.excerpt.Excerpt.{Excerpt}

-- the dots that replace a cut part of a line
abbrev pub dots : Bool → List ℕ
dots false = []
dots true = codes "..."

-- the spaces below these dots
abbrev pub indent : Bool → List ℕ
indent false = []
indent true = codes "   "

-- the text without a carriage return at its end
abbrev pub without_return : List ℕ → List ℕ
without_return text = if slice_index text (length text - 1) == 13 then take (length text - 1) text else text

-- the number of columns of the mark: those of the marked text, at least one
abbrev pub mark_width : List ℕ → ℕ
mark_width right = max 1 (width (take (marked right) right))

-- the line as it is shown
abbrev pub line_text : Excerpt → List ℕ
line_text e = dots e.is_cut_left ++ shown e.left.now ++ shown (without_return e.right.now) ++ dots e.is_cut_right

-- the mark below the place
abbrev pub mark_text : Excerpt → List ℕ
mark_text e = indent e.is_cut_left ++ replicate (width e.left.now) 32 ++ replicate (mark_width e.right.now) 94

abbrev pub excerpt_text : Excerpt → List ℕ
excerpt_text e = line_text e ++ codes "\n" ++ mark_text e ++ codes "\n"
