-- The symbol and the text of the token with a number.
use Rattle.std.proofs.Common.{◌≡◌, ℕ, zero, suc, ◌<◌, ◌≤◌, List, [], ◌∷◌, length, get_or, refl, sym, ap, ◌∙◌, arith}
use Rattle.hm_lex.specs.Texts.{token_text}
use Rattle.hm_lex.specs.declared.token.Token.{Token}
use Rattle.hm_parse_grammar.specs.Symbols.{symbol_of}
use Rattle.hm_parse_grammar.specs.declared.symbol.Symbol.{Symbol}
use Rattle.hm_parse_grammar.specs.declared.symbol.Symbol.TheVariants.{End}
use Rattle.hm_messages_hints.specs.Advice.{symbol_at, text_at}
use Rattle.hm_messages_outline.specs.Tokens.{symbol_in}

pub symbol_after : (source : List ℕ) (ts : List Token) (k : ℕ) → length ts ≤ k → symbol_at source ts k ≡ End
unfolding symbol_at
symbol_after source [] k h = refl
symbol_after source (t ∷ ts) zero h = absurd (omega (arith, h))
symbol_after source (t ∷ ts) (suc k) h = symbol_after source ts k (omega (arith, h))

pub symbol_there : (source : List ℕ) (ts : List Token) (k : ℕ) (d : Token) → k < length ts → symbol_at source ts k ≡ symbol_in source (get_or ts k d)
unfolding symbol_at
symbol_there source [] k d h = absurd (omega (arith, h))
symbol_there source (t ∷ ts) zero d h = refl
symbol_there source (t ∷ ts) (suc k) d h = symbol_there source ts k d (omega (arith, h))

pub text_behind : (source : List ℕ) (ts : List Token) (k : ℕ) → length ts ≤ k → text_at source ts k ≡ []
unfolding text_at
text_behind source [] k h = refl
text_behind source (t ∷ ts) zero h = absurd (omega (arith, h))
text_behind source (t ∷ ts) (suc k) h = text_behind source ts k (omega (arith, h))

pub text_there : (source : List ℕ) (ts : List Token) (k : ℕ) (d : Token) → k < length ts → text_at source ts k ≡ token_text source (get_or ts k d)
unfolding text_at
text_there source [] k d h = absurd (omega (arith, h))
text_there source (t ∷ ts) zero d h = refl
text_there source (t ∷ ts) (suc k) d h = text_there source ts k d (omega (arith, h))

-- and as a look at the tokens finds them
pub symbol_past : (source : List ℕ) (ts : List Token) (k : ℕ) → length ts ≤ k → End ≡ symbol_at source ts k
symbol_past source ts k h = sym (symbol_after source ts k h)

pub symbol_found : (source : List ℕ) (ts : List Token) (k : ℕ) (t : Token) (text : List ℕ) (s : Symbol) → k < length ts → t ≡ get_or ts k t → text ≡ token_text source t → s ≡ symbol_of t.kind text → s ≡ symbol_at source ts k
symbol_found source ts k t text s below is says found =
    found ∙ (ap (λ (x : List ℕ). symbol_of t.kind x) says ∙ (ap (λ (x : Token). symbol_in source x) is ∙ sym (symbol_there source ts k t below)))

pub text_past : (source : List ℕ) (ts : List Token) (k : ℕ) → length ts ≤ k → [] ≡ text_at source ts k
text_past source ts k h = sym (text_behind source ts k h)

pub text_found : (source : List ℕ) (ts : List Token) (k : ℕ) (t : Token) (text : List ℕ) → k < length ts → t ≡ get_or ts k t → text ≡ token_text source t → text ≡ text_at source ts k
text_found source ts k t text below is says = says ∙ (ap (λ (x : Token). token_text source x) is ∙ sym (text_there source ts k t below))
