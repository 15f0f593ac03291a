-- A source with a text put in around a part, or before it.
use Rattle.std.specs.Prelude.{ℕ, List, [], ◌++◌, codes, take, drop, slice_range}
use Rattle.hm_messages_changes.specs.Holes.{hole}
use Rattle.hm_messages_changes.specs.declared.data.SourceRange.{SourceRange}
use Rattle.hm_messages_changes.specs.declared.insertions.Insertion.{Insertion}
use Rattle.hm_messages_changes.specs.declared.insertions.Insertion.TheVariants.{Brackets, ListBrackets, Argument, Semicolon, Comma}

-- what is put in before a part: the bracket that opens an expression (Report 3.9) or a list (3.7), or a mark between declarations (4.4) or elements (3.7)
abbrev pub text_before : Insertion → List ℕ
text_before Brackets = codes "("
text_before ListBrackets = codes "["
text_before Argument = codes "("
text_before Semicolon = codes "; "
text_before Comma = codes ", "

-- and after it: the closing bracket, with the hole as one more argument before it (Report 3.3), or nothing
abbrev pub text_after : Insertion → List ℕ
text_after Brackets = codes ")"
text_after ListBrackets = codes "]"
text_after Argument = codes " " ++ (hole ++ codes ")")
text_after Semicolon = []
text_after Comma = []

-- the source with these texts before a part and after it
abbrev pub with_insertion : List ℕ → Insertion → SourceRange → List ℕ
with_insertion source insertion part =
    take part.from source ++ (text_before insertion ++ (slice_range source part.from part.to ++ (text_after insertion ++ drop part.to source)))
