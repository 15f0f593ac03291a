-- The end of a nested comment, found from the left. No public clause names these.
use Rattle.std.specs.Prelude.{ℕ, zero, suc, ◌+◌, ◌==◌, ◌&&◌, Bool, List, [], ◌∷◌, Option, Some, None, slice_index, if◌then◌else◌}
use Rattle.hm_lex.specs.declared.comments.CommentMark.{CommentMark}
use Rattle.hm_lex.specs.declared.comments.CommentMark.TheVariants.{Opens, Closes, Plain}

abbrev pub mark_of : ℕ → ℕ → CommentMark
mark_of b c = if b == 123 && c == 45 then Opens else (if b == 45 && c == 125 then Closes else Plain)

abbrev pub begins_comment : List ℕ → Bool
begins_comment bytes = slice_index bytes 0 == 123 && slice_index bytes 1 == 45

abbrev pub plus : ℕ → Option ℕ → Option ℕ
plus n None = None
plus n (Some m) = Some (n + m)

-- the number of bytes until this many open comments are closed
unfoldable pub close_len : ℕ → List ℕ → Option ℕ
close_len zero bytes = Some 0
close_len (suc depth) [] = None
close_len (suc depth) (b ∷ []) = None
close_len (suc depth) (b ∷ c ∷ bs) =
    elim (mark_of b c) [
      | Opens ↦ plus 2 (close_len (suc (suc depth)) bs)
      | Closes ↦ plus 2 (close_len depth bs)
      | Plain ↦ plus 1 (close_len (suc depth) (c ∷ bs))
    ]
