-- Worked examples: two texts with a new name, the sources that hold them, and tokens that are one name.
use Rattle.std.specs.Prelude.{ℕ, [], ◌∷◌, codes, false}
use Rattle.hm_lex.specs.declared.token.Kind.{Kind}
use Rattle.hm_lex.specs.declared.token.Kind.TheVariants.{VarId, Word}
use Rattle.hm_lex.specs.declared.token.Token.{Token}
use Rattle.hm_service_rename.specs.Replaced.{AreReplaced}
use Rattle.hm_service_rename.specs.Renames.{HasUnread}
use Rattle.hm_service_rename.specs.Sets.{AreHeldAs}
use Rattle.hm_service_rename.specs.Spelling.{IsOneName}
use Rattle.hm_uses_references.specs.declared.finding.Reference.{Reference}

-- a name of one letter in line 1
abbrev pub letter_at : ℕ → ℕ → Reference
letter_at source column = record { source = source; line = 1; column = column; length = 1; binds = false }

-- the reference in the second text is replaced there, and the first text stays as it is. A reference of a third text has no place
pub record ReplacedRow : Type 0 where
  pub second : AreReplaced (codes "x" ∷ codes "y x" ∷ []) (codes "z") (letter_at 1 3 ∷ []) (codes "x" ∷ codes "y z" ∷ [])
  pub not_outside : ¬ (AreReplaced [] (codes "z") (letter_at 0 1 ∷ []) [])

-- no sources have no texts, and they don't have one
pub record HeldRow : Type 0 where
  pub none : AreHeldAs [] []
  pub not_one : ¬ (AreHeldAs (codes "x" ∷ []) [])

-- a token of two letters
abbrev pub token_of : Kind → Token
token_of kind = record { kind = kind; start = 0; end = 2; place = record { line = 1; column = 1 } }

-- a variable of two letters is the whole text, a reserved word is no name, and neither are no tokens. No text of an empty set is unread
pub record NamesRow : Type 0 where
  pub variable : IsOneName 2 (token_of VarId ∷ [])
  pub not_longer : ¬ (IsOneName 3 (token_of VarId ∷ []))
  pub not_reserved : ¬ (IsOneName 2 (token_of Word ∷ []))
  pub not_none : ¬ (IsOneName 0 [])
  pub not_unread : ¬ (HasUnread [] (codes "z") [])
