-- The change of a source that a message about a token says.
use Rattle.std.specs.Prelude.{◌≡◌, ◌⊎◌, ◌≤◌, ℕ, List, [], ◌∷◌, ◌++◌, Option, None, Some, codes}
use Rattle.hm_lex.specs.declared.token.Place.{Place}
use Rattle.hm_messages_hints.specs.Marks.{mark_text}
use Rattle.hm_messages_hints.specs.declared.change.TokenChange.{TokenChange}
use Rattle.hm_messages_hints.specs.declared.change.TokenChange.TheVariants.{Insert, Replace, Remove}
use Rattle.hm_messages_hints.specs.declared.mark.Mark.{Mark}
use Rattle.hm_messages_hints.specs.declared.mark.Mark.TheVariants.{Semicolon, Comma, Equals, Arrow, Open, Close, OpenSquare, CloseSquare, LeftBrace, RightBrace, Where, Let, In, If, Then, Else, Case, Of, OfType, Backslash}
use Rattle.hm_messages_hints.specs.declared.syntax_hints.SyntaxHint.{SyntaxHint}
use Rattle.hm_messages_hints.specs.declared.syntax_hints.SyntaxHint.TheVariants.{Repaired}
use Rattle.hm_messages_json.specs.Edits.{Changed}
use Rattle.hm_messages_json.specs.declared.message.Position.{Position}
use Rattle.hm_messages_rewrites.specs.Rewrites.{IsRewritten, IsWritten}

-- the mark as a token of its own, whatever is next to it
abbrev pub apart : Mark → List ℕ
apart Semicolon = codes "; "
apart Comma = codes ", "
apart Equals = codes " = "
apart Arrow = codes " -> "
apart Open = codes "("
apart Close = codes ")"
apart OpenSquare = codes "["
apart CloseSquare = codes "]"
apart LeftBrace = codes "{ "
apart RightBrace = codes "}"
apart Where = codes " where "
apart Let = codes " let "
apart In = codes " in "
apart If = codes " if "
apart Then = codes " then "
apart Else = codes " else "
apart Case = codes " case "
apart Of = codes " of "
apart OfType = codes " :: "
apart Backslash = codes " \\ "

-- the mark before this token. At the end of the source, where no token is, it is on a line of its own, because a comment may be before it
abbrev pub inserted : Mark → List ℕ → List ℕ
inserted m [] = codes "\n" ++ mark_text m
inserted m (b ∷ bs) = apart m

-- the change of the token that is at this place
abbrev pub IsChangedBy : TokenChange → List ℕ → Place → List ℕ → List Changed → Type 0
IsChangedBy (Insert m) source p token changes = IsWritten p 0 (inserted m token) changes
IsChangedBy (Replace m) source p token changes = IsRewritten source p token (apart m) changes
IsChangedBy Remove source p token changes = IsRewritten source p token [] changes

-- the place of the token that the message is about: this one, or the other one that it names
abbrev pub token_place : Place → Option Position → Place
token_place p None = p
token_place p (Some other) = record { line = other.line; column = other.columns.bytes }

-- the line or the column of the other place has more than 32 bits
abbrev pub IsBeyond : Option Position → Type 0
IsBeyond None = ⊥
IsBeyond (Some other) = (4294967296 ≤ other.line) ⊎ (4294967296 ≤ other.columns.bytes)

-- the change that a hint says of this token. Only one with which tokens can be read says one
abbrev pub IsTokenChanged : SyntaxHint → List ℕ → Place → List ℕ → Option Position → List Changed → Type 0
IsTokenChanged (Repaired r) source p token other changes = IsChangedBy r.change source (token_place p other) token changes ⊎ ((changes ≡ []) × IsBeyond other)
IsTokenChanged hint source p token other changes = changes ≡ []
