-- A change of one token with which tokens spell modules (Haskell 98 Report, chapters 3 to 5).
use Rattle.std.specs.Prelude.{◌≡◌, ℕ, ◌+◌, ◌-◌, ⊤, List, [], ◌∷◌, ◌++◌, take, drop, slice_range}
use Rattle.hm_lex.specs.declared.token.Token.{Token}
use Rattle.hm_parse_grammar.specs.Grammar.Modules.{Spells}
use Rattle.hm_syntax.specs.declared.ast.Module.{Module}
use Rattle.hm_messages_hints.specs.Marks.{IsMarkIn}
use Rattle.hm_messages_hints.specs.declared.mark.Mark.TheVariants.{RightBrace}
use Rattle.hm_messages_hints.specs.declared.change.TokenChange.{TokenChange}
use Rattle.hm_messages_hints.specs.declared.change.TokenChange.TheVariants.{Insert, Replace, Remove}
use Rattle.hm_messages_hints.specs.declared.change.Repair.{Repair}
use Rattle.hm_messages_hints.specs.declared.change.Scope.{Scope}
use Rattle.hm_messages_hints.specs.declared.change.Scope.TheVariants.{Whole, Declaration}

-- the tokens after the change of the one with this number. The token `mark` is the one that the change puts in
abbrev pub changed : TokenChange → ℕ → Token → List Token → List Token
changed (Insert m) at mark ts = take at ts ++ (mark ∷ drop at ts)
changed (Replace m) at mark ts = take at ts ++ (mark ∷ drop (at + 1) ts)
changed Remove at mark ts = take at ts ++ drop (at + 1) ts

-- the token is the mark that the change puts in, if it puts one in
abbrev pub IsPutIn : List ℕ → TokenChange → Token → Type 0
IsPutIn text (Insert m) mark = IsMarkIn text m mark
IsPutIn text (Replace m) mark = IsMarkIn text m mark
IsPutIn text Remove mark = ⊤

-- the tokens that are read after a change: all of them, or a module's header, one declaration of it, and a closing brace
abbrev pub repaired : Repair → Token → Token → List Token → List Token
repaired r mark close ts = repaired_in r.scope r.change r.at mark close ts
  where
    repaired_in : Scope → TokenChange → ℕ → Token → Token → List Token → List Token
    repaired_in Whole change at mark close ts = changed change at mark ts
    repaired_in (Declaration header body) change at mark close ts =
        slice_range ts header.start header.end ++ (changed change (at - body.start) mark (slice_range ts body.start body.end) ++ (close ∷ []))

-- the tokens that are read without the change
abbrev pub unrepaired : Scope → Token → List Token → List Token
unrepaired Whole close ts = ts
unrepaired (Declaration header body) close ts = slice_range ts header.start header.end ++ (slice_range ts body.start body.end ++ (close ∷ []))

-- with the change the tokens spell modules, and without it they don't. The marks are in a text that extends the source
pub record IsRepair (source : List ℕ) (ts : List Token) (repair : Repair) : Type 0 where
  pub rest : List ℕ
  pub text : List ℕ
  pub extends : text ≡ source ++ rest
  pub mark : Token
  pub close : Token
  pub mark_is : IsPutIn text repair.change mark
  pub close_is : IsMarkIn text RightBrace close
  pub modules : List Module
  pub spelled : Spells modules text (repaired repair mark close ts)
  pub unread : (others : List Module) → ¬ (Spells others text (unrepaired repair.scope close ts))
