-- Semicolons before an item.
use Rattle.std.proofs.Common.{◌≡◌, ◌≤◌, List, [], ◌∷◌, length, Bool, true, false, refl, sym, ap, ◌∙◌, cond, arith}
use Rattle.hm_parse_grammar.specs.declared.symbol.Symbol.TheVariants.{Semicolon}
use Rattle.hm_parse_grammar.specs.Symbols.{same}
use Rattle.hm_parse_grammar.specs.Tokens.{Terminal}
use Rattle.hm_parse_grammar.specs.Reading.Basics.{is_at, past_semicolons}
use Rattle.hm_parse_grammar.proofs.Holds.{same_true}

pub past_go : (k : Terminal) (ts : List Terminal) → k.symbol ≡ Semicolon → past_semicolons (k ∷ ts) ≡ past_semicolons ts
unfolding past_semicolons
past_go k ts q = rw q refl

pub past_stay : (ts : List Terminal) → is_at Semicolon ts ≡ false → past_semicolons ts ≡ ts
unfolding past_semicolons
past_stay [] h = refl
past_stay (k ∷ ts) h = rw h refl

pub past_short : (ts : List Terminal) → length (past_semicolons ts) ≤ length ts
unfolding past_semicolons
past_short [] = omega arith
past_short (k ∷ ts) = chosen (same k.symbol Semicolon) (past_short ts)
  where
    chosen : (c : Bool) → length (past_semicolons ts) ≤ length ts → length (cond c (past_semicolons ts) (k ∷ ts)) ≤ length (k ∷ ts)
    chosen true h = omega arith
    chosen false h = omega arith

pub past_twice : (ts : List Terminal) → past_semicolons (past_semicolons ts) ≡ past_semicolons ts
past_twice [] = ap past_semicolons (past_stay [] refl)
past_twice (k ∷ ts) = chosen (same k.symbol Semicolon) refl (past_twice ts)
  where
    chosen : (c : Bool) → same k.symbol Semicolon ≡ c → past_semicolons (past_semicolons ts) ≡ past_semicolons ts →
        past_semicolons (past_semicolons (k ∷ ts)) ≡ past_semicolons (k ∷ ts)
    chosen true e h = let go = past_go k ts (same_true _ _ e) in ap past_semicolons go ∙ (h ∙ sym go)
    chosen false e h = ap past_semicolons (past_stay (k ∷ ts) e)

-- past all of them
pub past_stops : (ts : List Terminal) → is_at Semicolon (past_semicolons ts) ≡ false
unfolding past_semicolons
past_stops [] = refl
past_stops (k ∷ ts) = chosen (same k.symbol Semicolon) refl (past_stops ts)
  where
    chosen : (c : Bool) → same k.symbol Semicolon ≡ c → is_at Semicolon (past_semicolons ts) ≡ false → is_at Semicolon (cond c (past_semicolons ts) (k ∷ ts)) ≡ false
    chosen true e h = h
    chosen false e h = e
