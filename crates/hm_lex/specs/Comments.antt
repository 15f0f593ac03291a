-- Line comments and nested comments (Haskell 98 Report, section 2.3).
use Rattle.std.specs.Prelude.{◌≡◌, ◌≢◌, ◌⊎◌, ℕ, List, ◌∷◌, ◌++◌, codes}
use Rattle.std.specs.List.{AllByRecursion}
use Rattle.hm_lex.specs.Bytes.{is_symbol}
use Rattle.hm_lex.specs.Runs.{FirstFails}
use Rattle.hm_lex.specs.Symbols.{IsDashes}

-- a run of symbols that consists of dashes, and the rest of the line
abbrev pub IsLineComment : List ℕ → Type 0
IsLineComment text =
    (dashes : List ℕ) × (line : List ℕ)
    × IsDashes dashes × FirstFails is_symbol line × AllByRecursion (λ b. b ≢ 10) line × (text ≡ dashes ++ line)

-- a byte at which no mark of a nested comment begins
abbrev pub IsPlain : ℕ → List ℕ → Type 0
IsPlain b rest = (more : List ℕ) → (b ∷ rest ≡ 123 ∷ 45 ∷ more) ⊎ (b ∷ rest ≡ 45 ∷ 125 ∷ more) → ⊥

-- the rest of a nested comment after its opening mark, including its own closing mark
pub data IsCommentRest : List ℕ → Type 0 where
  closes : {text : List ℕ} → text ≡ codes "-}" → IsCommentRest text
  plain : {text : List ℕ} (b : ℕ) (rest : List ℕ) → IsPlain b rest → IsCommentRest rest → text ≡ b ∷ rest → IsCommentRest text
  nested : {text : List ℕ} (inner rest : List ℕ) → IsCommentRest inner → IsCommentRest rest → text ≡ codes "{-" ++ inner ++ rest → IsCommentRest text

abbrev pub IsNestedComment : List ℕ → Type 0
IsNestedComment text = (rest : List ℕ) × IsCommentRest rest × (text ≡ codes "{-" ++ rest)

abbrev pub IsComment : List ℕ → Type 0
IsComment text = IsLineComment text ⊎ IsNestedComment text
