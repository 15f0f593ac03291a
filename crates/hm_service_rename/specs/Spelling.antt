-- How names are spelled (Haskell 98 Report, section 2.4).
use Rattle.std.specs.Prelude.{◌≡◌, ◌⊎◌, ℕ, List, [], ◌∷◌, length}
use Rattle.hm_lex.specs.Faults.{AreTokensOf}
use Rattle.hm_lex.specs.declared.token.Kind.TheVariants.{ConId, VarId}
use Rattle.hm_lex.specs.declared.token.Token.{Token}

-- a variable or a constructor without a qualifier, from the start to the end of a text of so many bytes
pub record IsNameToken (size : ℕ) (token : Token) : Type 0 where
  pub start : token.start ≡ 0
  pub end : token.end ≡ size
  pub kind : (token.kind ≡ VarId) ⊎ (token.kind ≡ ConId)

-- one such token, and no other
pub record IsOneName (size : ℕ) (tokens : List Token) : Type 0 where
  pub token : Token
  pub one : tokens ≡ token ∷ []
  pub is : IsNameToken size token

-- the text is such a token
abbrev pub IsName : List ℕ → Type 0
IsName text = (tokens : List Token) × (AreTokensOf text tokens × IsOneName (length text) tokens)
