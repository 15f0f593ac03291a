-- The tokens of an item, by its shape.
use Rattle.std.proofs.Common.{◌≡◌, ℕ, List, [], ◌∷◌, arith}
use Rattle.hm_lex.specs.declared.token.Kind.{Kind}
use Rattle.hm_lex.specs.Cut.{Piece, shape_of, item_tokens, token_after}
use Rattle.hm_lex.specs.Shapes.{white_space, comment, lexeme, malformed}

pub white_tokens : (p : Piece) (before text : List ℕ) → shape_of p.item ≡ white_space → item_tokens before p.item text ≡ []
white_tokens p before text e = grind arith

pub comment_tokens : (p : Piece) (before text : List ℕ) → shape_of p.item ≡ comment → item_tokens before p.item text ≡ []
comment_tokens p before text e = grind arith

pub lexeme_tokens : (p : Piece) (k : Kind) (before text : List ℕ) → shape_of p.item ≡ lexeme k → item_tokens before p.item text ≡ token_after before k text ∷ []
lexeme_tokens p k before text e = grind arith

pub no_malformed : (p : Piece) → shape_of p.item ≡ malformed → ⊥
no_malformed p e = grind arith
