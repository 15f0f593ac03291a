-- Worked examples: a token after two lines, and texts that can be a part of a source before another one.
use Rattle.std.specs.Prelude.{◌≡◌, ℕ, [], codes}
use Rattle.hm_lex.specs.declared.token.Kind.TheVariants.{VarId}
use Rattle.hm_lex.specs.declared.token.Token.{Token}
use Rattle.hm_run_tokens.specs.Parts.{EndsLine, IsClosed, moved}

abbrev pub token : ℕ → ℕ → ℕ → ℕ → Token
token start end line column = record { kind = VarId; start = start; end = end; place = record { line = line; column = column } }

-- the variable of `  x` is in line 3 and at byte 6, if the lines `{` and `}` come before it, each with its line end. Its column stays
pub record PartsRow : Type 0 where
  pub after_lines : moved (codes "{\n}\n") (token 2 3 1 3) ≡ token 6 7 3 3
  pub not_in_place : ¬ (moved (codes "{\n}\n") (token 2 3 1 3) ≡ token 2 3 1 3)
  pub line : EndsLine (codes "{\n")
  pub no_line : ¬ (EndsLine (codes "{"))
  pub nothing_open : IsClosed []
  pub still_open : ¬ (IsClosed (codes "{"))
