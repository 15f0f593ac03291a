-- The faults of a source, and the results of lexing it.
use Rattle.std.specs.Prelude.{◌≡◌, ◌≢◌, ℕ, ◌≤◌, ◌<◌, List, [], ◌∷◌, ◌++◌, length, IsTrue, codes}
use Rattle.std.specs.Str.{IsUtf8}
use Rattle.hm_lex.specs.declared.token.Token.{Token}
use Rattle.hm_lex.specs.declared.token.LexFault.{LexFault}
use Rattle.hm_lex.specs.declared.token.LexFault.TheVariants.{TooLong, Lexeme, OpenComment, TooDeep, Memory}
use Rattle.hm_lex.specs.declared.item.Item.{Item}
use Rattle.hm_lex.specs.Comments.{IsNestedComment}
use Rattle.hm_lex.specs.Cut.{Begins, IsLongest, shape_of, Piece, text_of, IsCutBefore, IsCut, place_after, tokens_of, is_opening, depth_after}

abbrev pub max_source_len : ℕ
max_source_len = 1048576

abbrev pub max_depth : ℕ
max_depth = 200

-- no item of a cut begins the bytes
abbrev pub NoItemBegins : List ℕ → Type 0
NoItemBegins bytes = (item : Item) (text : List ℕ) → IsLongest (shape_of item) text bytes → ⊥

-- the bytes are text, and begin with a comment that doesn't end
pub record OpenCommentBegins (bytes : List ℕ) : Type 0 where
  pub opens : Begins (codes "{-") bytes
  pub never_closed : (text : List ℕ) → IsNestedComment text → Begins text bytes → ⊥
  pub is_text : IsUtf8 bytes

-- the source has the fault after these bytes
abbrev pub IsFaultAfter : List ℕ → LexFault → List ℕ → Type 0
IsFaultAfter before TooLong source = ⊥
IsFaultAfter before (Lexeme place) source =
    (pieces : List Piece) × (rest : List ℕ)
    × IsCutBefore pieces rest source × (rest ≢ []) × NoItemBegins rest × (OpenCommentBegins rest → ⊥)
    × (before ≡ text_of pieces) × (place ≡ place_after before)
IsFaultAfter before (OpenComment place) source =
    (pieces : List Piece) × (rest : List ℕ)
    × IsCutBefore pieces rest source × OpenCommentBegins rest
    × (before ≡ text_of pieces) × (place ≡ place_after before)
IsFaultAfter before (TooDeep place) source =
    (pieces : List Piece) × (bracket : Piece) × (rest : List ℕ)
    × IsCutBefore (pieces ++ bracket ∷ []) rest source × IsTrue (is_opening bracket.text) × (depth_after pieces ≡ max_depth)
    × (before ≡ text_of pieces) × (place ≡ place_after before)
IsFaultAfter before Memory source = ⊥

-- the fault is the first in the source
pub record IsFirstFault (source : List ℕ) (fault : LexFault) : Type 0 where
  pub before : List ℕ
  pub stands : IsFaultAfter before fault source
  pub first : (other : LexFault) (earlier : List ℕ) → IsFaultAfter earlier other source → length before ≤ length earlier

-- why a source is refused. Nothing is said about running out of memory
abbrev pub IsRefusal : List ℕ → LexFault → Type 0
IsRefusal source TooLong = max_source_len < length source
IsRefusal source (Lexeme place) = (length source ≤ max_source_len) × IsFirstFault source (Lexeme place)
IsRefusal source (OpenComment place) = (length source ≤ max_source_len) × IsFirstFault source (OpenComment place)
IsRefusal source (TooDeep place) = (length source ≤ max_source_len) × IsFirstFault source (TooDeep place)
IsRefusal source Memory = Unit {0}

-- the tokens of a source that isn't refused
pub record AreTokensOf (source : List ℕ) (tokens : List Token) : Type 0 where
  pub short : length source ≤ max_source_len
  pub pieces : List Piece
  pub cut : IsCut pieces source
  pub tokens_are : tokens ≡ tokens_of pieces
  pub faultless : (fault : LexFault) (before : List ℕ) → IsFaultAfter before fault source → ⊥
